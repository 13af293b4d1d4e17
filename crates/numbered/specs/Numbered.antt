-- A decoded word as plain numbers. Families count from 1 in the order of `Instruction`; 0 says "no such instruction", and then all else is 0.
use Rattle.std.specs.Prelude.{ℕ, Option, Some, None}
use Rattle.isa.specs.declared.Operands.{Operands}
use Rattle.isa.specs.declared.FieldOperands.{FieldOperands}
use Rattle.isa.specs.declared.HintOperands.{HintOperands}
use Rattle.isa.specs.declared.Instruction.{Instruction}
use Rattle.numbered.specs.declared.DecodedRecord.{DecodedRecord}
use Rattle.numbered.specs.Operations.{alu_number, product_number, division_number, shift_number, immediate_number, upper_number, alsl_number, bytepick_number, unary_number, field_number, branch_number, zero_branch_number, jump_number, load_number, store_number, pointer_number, preload_number, barrier_number, trap_number, assert_number}

abbrev pub plain_of : ℕ → ℕ → Operands → DecodedRecord
plain_of family operation o = record { family = family; operation = operation; rd = o.rd; rj = o.rj; rk = o.rk; imm = o.imm }

-- BSTRINS and BSTRPICK: lsb in the place of rk, msb in that of the immediate
abbrev pub field_of : ℕ → ℕ → FieldOperands → DecodedRecord
field_of family operation o = record { family = family; operation = operation; rd = o.rd; rj = o.rj; rk = o.lsb; imm = o.msb }

-- PRELD and PRELDX: the hint in the place of rd
abbrev pub hint_of : ℕ → ℕ → HintOperands → DecodedRecord
hint_of family operation o = record { family = family; operation = operation; rd = o.hint; rj = o.rj; rk = o.rk; imm = o.imm }

abbrev pub instruction_numbers : Instruction → DecodedRecord
instruction_numbers (Instruction.Alu op o) = plain_of 1 (alu_number op) o
instruction_numbers (Instruction.Product op o) = plain_of 2 (product_number op) o
instruction_numbers (Instruction.Division op o) = plain_of 3 (division_number op) o
instruction_numbers (Instruction.Shift op o) = plain_of 4 (shift_number op) o
instruction_numbers (Instruction.ShiftImmediate op o) = plain_of 5 (shift_number op) o
instruction_numbers (Instruction.Immediate op o) = plain_of 6 (immediate_number op) o
instruction_numbers (Instruction.Upper op o) = plain_of 7 (upper_number op) o
instruction_numbers (Instruction.Alsl op o) = plain_of 8 (alsl_number op) o
instruction_numbers (Instruction.Bytepick op o) = plain_of 9 (bytepick_number op) o
instruction_numbers (Instruction.Unary op o) = plain_of 10 (unary_number op) o
instruction_numbers (Instruction.Field op o) = field_of 11 (field_number op) o
instruction_numbers (Instruction.Branch op o) = plain_of 12 (branch_number op) o
instruction_numbers (Instruction.ZeroBranch op o) = plain_of 13 (zero_branch_number op) o
instruction_numbers (Instruction.Jump op o) = plain_of 14 (jump_number op) o
instruction_numbers (Instruction.Load op o) = plain_of 15 (load_number op) o
instruction_numbers (Instruction.LoadIndexed op o) = plain_of 16 (load_number op) o
instruction_numbers (Instruction.Store op o) = plain_of 17 (store_number op) o
instruction_numbers (Instruction.StoreIndexed op o) = plain_of 18 (store_number op) o
instruction_numbers (Instruction.Pointer op o) = plain_of 19 (pointer_number op) o
instruction_numbers (Instruction.Preload op o) = hint_of 20 (preload_number op) o
instruction_numbers (Instruction.Barrier op o) = plain_of 21 (barrier_number op) o
instruction_numbers (Instruction.Trap op o) = plain_of 22 (trap_number op) o
instruction_numbers (Instruction.Assert op o) = plain_of 23 (assert_number op) o
instruction_numbers (Instruction.Config op o) = plain_of 24 0 o

abbrev pub numbered_of : Option Instruction → DecodedRecord
numbered_of (Some i) = instruction_numbers i
numbered_of None = record { family = 0; operation = 0; rd = 0; rj = 0; rk = 0; imm = 0 }
