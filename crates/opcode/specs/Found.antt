-- What is decoded, given what an opcode is: a step on the way to `decode`. Nothing here is to be believed: the promise of `decode` is
-- `Decodes` alone.
use Rattle.std.specs.Prelude.{ℕ, Option, Some, None}
use Rattle.isa.specs.Format.{values, r2, r3, r2i12, hint_i12, hint_r2}
use Rattle.isa.specs.Operands.{operands, hint_operands}
use Rattle.isa.specs.declared.Instruction.TheVariants as instruction
use Rattle.opcode.specs.declared.ThreeR.{ThreeR}
use Rattle.opcode.specs.declared.ThreeR.TheVariants as three
use Rattle.opcode.specs.declared.TwoR.{TwoR}
use Rattle.opcode.specs.declared.TwoR.TheVariants as two
use Rattle.opcode.specs.declared.Access.{Access}
use Rattle.isa.specs.declared.Instruction.{Instruction}
use Rattle.opcode.specs.declared.Access.TheVariants as accesses

abbrev pub three_r : ℕ → Option ThreeR → Option Instruction
three_r w (Some (three.Alu op)) = Some (instruction.Alu op (operands (values r3 w)))
three_r w (Some (three.Product op)) = Some (instruction.Product op (operands (values r3 w)))
three_r w (Some (three.Division op)) = Some (instruction.Division op (operands (values r3 w)))
three_r w (Some (three.Shift op)) = Some (instruction.Shift op (operands (values r3 w)))
three_r w None = None

abbrev pub two_r : ℕ → Option TwoR → Option Instruction
two_r w (Some (two.Unary op)) = Some (instruction.Unary op (operands (values r2 w)))
two_r w (Some (two.Config op)) = Some (instruction.Config op (operands (values r2 w)))
two_r w None = None

abbrev pub access : ℕ → Option Access → Option Instruction
access w (Some (accesses.Load op)) = Some (instruction.Load op (operands (values r2i12 w)))
access w (Some (accesses.Store op)) = Some (instruction.Store op (operands (values r2i12 w)))
access w (Some (accesses.Preload op)) = Some (instruction.Preload op (hint_operands (values hint_i12 w)))
access w None = None

abbrev pub indexed_access : ℕ → Option Access → Option Instruction
indexed_access w (Some (accesses.Load op)) = Some (instruction.LoadIndexed op (operands (values r3 w)))
indexed_access w (Some (accesses.Store op)) = Some (instruction.StoreIndexed op (operands (values r3 w)))
indexed_access w (Some (accesses.Preload op)) = Some (instruction.Preload op (hint_operands (values hint_r2 w)))
indexed_access w None = None
