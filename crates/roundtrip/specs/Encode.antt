-- The word of an instruction: decoding the other way round. P6 stands on it.
use Rattle.std.specs.Prelude.{ℕ, ◌^◌, ◌<◌, ◌≡◌, true, cond}
use Rattle.isa.specs.Format.{Part, opcode, rd, rj, rk, imm, hint, lsb, msb, same, word_of, width}
use Rattle.opcode.specs.Table.{Row, alu_row, product_row, division_row, shift_row, shift_immediate_row, immediate_row, upper_row, alsl_row, bytepick_row, unary_row, field_row, branch_row, zero_branch_row, jump_row, load_row, load_indexed_row, store_row, store_indexed_row, pointer_row, preload_row, barrier_row, trap_row, assert_row, config_row}
use Rattle.isa.specs.declared.Operands.{Operands}
use Rattle.isa.specs.declared.FieldOperands.{FieldOperands}
use Rattle.isa.specs.declared.HintOperands.{HintOperands}
use Rattle.isa.specs.declared.Instruction.{Instruction}
use Rattle.isa.specs.declared.Instruction.TheVariants as instruction

-- the value of each part; a part that operands do not have is 0
abbrev pub of_operands : Operands → Part → ℕ
of_operands o opcode = 0
of_operands o rd = o.rd
of_operands o rj = o.rj
of_operands o rk = o.rk
of_operands o imm = o.imm
of_operands o hint = 0
of_operands o lsb = 0
of_operands o msb = 0

abbrev pub of_field_operands : FieldOperands → Part → ℕ
of_field_operands o opcode = 0
of_field_operands o rd = o.rd
of_field_operands o rj = o.rj
of_field_operands o rk = 0
of_field_operands o imm = 0
of_field_operands o hint = 0
of_field_operands o lsb = o.lsb
of_field_operands o msb = o.msb

abbrev pub of_hint_operands : HintOperands → Part → ℕ
of_hint_operands o opcode = 0
of_hint_operands o rd = 0
of_hint_operands o rj = o.rj
of_hint_operands o rk = o.rk
of_hint_operands o imm = o.imm
of_hint_operands o hint = o.hint
of_hint_operands o lsb = 0
of_hint_operands o msb = 0

-- the value of each operand of an instruction
abbrev pub operands_of : Instruction → Part → ℕ
operands_of (instruction.Alu op o) = of_operands o
operands_of (instruction.Product op o) = of_operands o
operands_of (instruction.Division op o) = of_operands o
operands_of (instruction.Shift op o) = of_operands o
operands_of (instruction.ShiftImmediate op o) = of_operands o
operands_of (instruction.Immediate op o) = of_operands o
operands_of (instruction.Upper op o) = of_operands o
operands_of (instruction.Alsl op o) = of_operands o
operands_of (instruction.Bytepick op o) = of_operands o
operands_of (instruction.Unary op o) = of_operands o
operands_of (instruction.Field op o) = of_field_operands o
operands_of (instruction.Branch op o) = of_operands o
operands_of (instruction.ZeroBranch op o) = of_operands o
operands_of (instruction.Jump op o) = of_operands o
operands_of (instruction.Load op o) = of_operands o
operands_of (instruction.LoadIndexed op o) = of_operands o
operands_of (instruction.Store op o) = of_operands o
operands_of (instruction.StoreIndexed op o) = of_operands o
operands_of (instruction.Pointer op o) = of_operands o
operands_of (instruction.Preload op o) = of_hint_operands o
operands_of (instruction.Barrier op o) = of_operands o
operands_of (instruction.Trap op o) = of_operands o
operands_of (instruction.Assert op o) = of_operands o
operands_of (instruction.Config op o) = of_operands o

-- the row that an instruction is of
abbrev pub row_of : Instruction → Row
row_of (instruction.Alu op o) = alu_row op
row_of (instruction.Product op o) = product_row op
row_of (instruction.Division op o) = division_row op
row_of (instruction.Shift op o) = shift_row op
row_of (instruction.ShiftImmediate op o) = shift_immediate_row op
row_of (instruction.Immediate op o) = immediate_row op
row_of (instruction.Upper op o) = upper_row op
row_of (instruction.Alsl op o) = alsl_row op
row_of (instruction.Bytepick op o) = bytepick_row op
row_of (instruction.Unary op o) = unary_row op
row_of (instruction.Field op o) = field_row op
row_of (instruction.Branch op o) = branch_row op
row_of (instruction.ZeroBranch op o) = zero_branch_row op
row_of (instruction.Jump op o) = jump_row op
row_of (instruction.Load op o) = load_row op
row_of (instruction.LoadIndexed op o) = load_indexed_row op
row_of (instruction.Store op o) = store_row op
row_of (instruction.StoreIndexed op o) = store_indexed_row op
row_of (instruction.Pointer op o) = pointer_row op
row_of (instruction.Preload op o) = preload_row op
row_of (instruction.Barrier op o) = barrier_row op
row_of (instruction.Trap op o) = trap_row op
row_of (instruction.Assert op o) = assert_row op
row_of (instruction.Config op o) = config_row op

-- all parts of a word: an opcode, and operands
abbrev pub with_code : ℕ → (Part → ℕ) → Part → ℕ
with_code c x q = cond (same q opcode) c (x q)

abbrev pub parts_of : Instruction → Part → ℕ
parts_of i = with_code (row_of i).code (operands_of i)

-- the word of an instruction
abbrev pub encode_of : Instruction → ℕ
encode_of i = word_of (row_of i).format.pieces (parts_of i)

-- operands in range: each fits its field, one that the format does not have is below 2 ^ 0 and so 0, and the format allows them
abbrev pub InRange : Instruction → Type 0
InRange i = ((q : Part) → operands_of i q < 2 ^ width (row_of i).format q) × ((row_of i).format.allows (parts_of i) ≡ true)
