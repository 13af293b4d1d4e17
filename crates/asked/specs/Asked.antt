-- What a word asks for, given what it is decoded to: a step on the way to `turn`. Nothing here is to be believed: the promise of `turn` is
-- over `step_of`.
use Rattle.std.specs.Prelude.{ℕ, List, Option, Some, None}
use Rattle.place.specs.declared.GuestAddr.{GuestAddr}
use Rattle.isa.specs.declared.Instruction.{Instruction}
use Rattle.fault.specs.declared.Fault.{Fault}
use Rattle.effect.specs.declared.Effect.{Effect}
use Rattle.effect.specs.Effect.{effect_of}

abbrev pub asked_of : Option Instruction → ℕ → List ℕ → GuestAddr → Effect
asked_of (Some i) word gr pc = effect_of i gr pc
asked_of None word gr pc = Effect.Raise (Fault.Ine word)
