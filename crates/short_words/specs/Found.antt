-- What is decoded where one more test decides: a step on the way to `decode`. Nothing here is to be believed: the promise of `decode` is
-- `Decodes` alone.
use Rattle.std.specs.Prelude.{ℕ, Bool, cond, Option, Some, None}
use Rattle.isa.specs.Format.{values, asrt}
use Rattle.isa.specs.Operands.{operands}
use Rattle.isa.specs.declared.Assert.{Assert}
use Rattle.isa.specs.declared.Instruction.{Instruction}
use Rattle.isa.specs.declared.Instruction.TheVariants as instruction

-- ASRT, if the word exists
abbrev pub assertion : Bool → Assert → ℕ → Option Instruction
assertion zero op w = cond zero (Some (instruction.Assert op (operands (values asrt w)))) None
