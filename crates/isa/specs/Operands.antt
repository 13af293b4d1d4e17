-- The operands of a word: the values of its parts, as the word has them. A part that the format does not have is 0.
use Rattle.std.specs.Prelude.{ℕ}
use Rattle.isa.specs.Format.{Part, rd, rj, rk, imm, hint, lsb, msb}
use Rattle.isa.specs.declared.Operands.{Operands}
use Rattle.isa.specs.declared.FieldOperands.{FieldOperands}
use Rattle.isa.specs.declared.HintOperands.{HintOperands}

abbrev pub operands : (Part → ℕ) → Operands
operands x = record { rd = x rd; rj = x rj; rk = x rk; imm = x imm }

abbrev pub field_operands : (Part → ℕ) → FieldOperands
field_operands x = record { rd = x rd; rj = x rj; lsb = x lsb; msb = x msb }

abbrev pub hint_operands : (Part → ℕ) → HintOperands
hint_operands x = record { hint = x hint; rj = x rj; rk = x rk; imm = x imm }
