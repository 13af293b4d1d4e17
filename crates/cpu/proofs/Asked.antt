-- A word that is no instruction asks to raise, and raises.
use mathlib.Core.Path.{◌≡◌, refl}
use Prim.Native.Nat.{ℕ}
use Rattle.std.specs.Prelude.{Option, Some, None}
use Rattle.isa.specs.declared.Instruction.{Instruction}
use Rattle.asked.specs.Asked.{asked_of}
use Rattle.apply.specs.Machine.{Ground, State}
use Rattle.apply.specs.Apply.{apply_of}
use Rattle.cpu.specs.Step.{step_decoded}

pub decoded : (d : Option Instruction) (word : ℕ) (g : Ground) (s : State)
    → step_decoded d word g s ≡ apply_of g.window (asked_of d word s.regs s.pc) s
unfolding apply_of
decoded (Some i) word g s = refl
decoded None word g s = refl
