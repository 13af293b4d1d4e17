-- What is decoded where one more test decides: a step on the way to `decode`. Nothing here is to be believed: the promise of `decode` is
-- `Decodes` alone.
use Rattle.std.specs.Prelude.{ℕ, Bool, cond, Option, Some}
use Rattle.isa.specs.Format.{values, r1i20}
use Rattle.isa.specs.Operands.{operands}
use Rattle.alu.specs.declared.Upper.{Upper}
use Rattle.isa.specs.declared.Instruction.{Instruction}
use Rattle.isa.specs.declared.Instruction.TheVariants as instruction

-- two operations that differ in one bit of the opcode
abbrev pub upper_pair : Bool → Upper → Upper → ℕ → Option Instruction
upper_pair bit set clear w = cond bit (upper set) (upper clear)
  where
    upper : Upper → Option Instruction
    upper op = Some (instruction.Upper op (operands (values r1i20 w)))
