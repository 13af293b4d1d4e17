-- What is decoded where one more test decides: a step on the way to `decode`. Nothing here is to be believed: the promise of `decode` is
-- `Decodes` alone.
use Rattle.std.specs.Prelude.{ℕ, Bool, cond, Option, Some, None}
use Rattle.isa.specs.Format.{values, r2i5}
use Rattle.isa.specs.Operands.{operands}
use Rattle.operands.specs.Sized.{field_at, field_allowed}
use Rattle.shift.specs.declared.Shift.{Shift}
use Rattle.fields.specs.declared.Field.{Field}
use Rattle.isa.specs.declared.Instruction.{Instruction}
use Rattle.isa.specs.declared.Instruction.TheVariants as instruction

-- a shift of a word, if the word exists
abbrev pub word_shift : Bool → Shift → ℕ → Option Instruction
word_shift set op w = cond set (Some (instruction.ShiftImmediate op (operands (values r2i5 w)))) None

-- a bit field of a word or a double word, if its word exists: `field_w` and `field_d` by their size
abbrev pub bit_field : ℕ → Field → ℕ → Option Instruction
bit_field size op w = cond (field_allowed size w) (Some (instruction.Field op (field_at size w))) None
