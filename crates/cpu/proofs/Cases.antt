-- Every step is one of four: it raises, it writes a register, it only goes on, or it stores in the window. What holds of these four
-- holds of every step, so that a new instruction reopens nothing that is proved this way.
use Rattle.std.specs.Prelude.{Option, Some, None}
use Prim.Native.Nat.{ℕ, ◌+◌, ◌≤◌}
use Rattle.place.specs.declared.ArenaOffset.{ArenaOffset}
use Rattle.place.specs.declared.GuestAddr.{GuestAddr}
use Rattle.place.specs.declared.Width.{Width}
use Rattle.place.specs.Place.{bytes_of}
use Rattle.isa.specs.declared.Instruction.{Instruction}
use Rattle.opcode.specs.Decode.{decode_of}
use Rattle.registers.specs.Registers.{written}
use Rattle.fault.specs.declared.Fault.{Fault}
use Rattle.memory.specs.Memory.{stored_of}
use Rattle.operate.specs.Operate.{next_of}
use Rattle.effect.specs.Effect.{effect_of}
use Rattle.apply.specs.Machine.{Ground, State, Ended, with_pc, with_regs, with_arena, done, raised}
use Rattle.cpu.specs.Step.{fetch_of, step_decoded, step_fetched, step_of}
use Rattle.apply.proofs.Cases.{of_effect}

module _ (P : Ended → Type 0) (g : Ground) (s : State)
    (raising : (f : Fault) → P (raised f s))
    (writing : (rd v : ℕ) (to : GuestAddr) → P (done (with_pc to (with_regs (written s.regs rd v) s))))
    (going : (to : GuestAddr) → P (done (with_pc to s)))
    (storing : (k : Width) (o : ArenaOffset) (v : ℕ) → g.window.start.0 ≤ o.0 → o.0 + bytes_of k ≤ g.window.start.0 + g.window.len
    → P (done (with_pc (next_of s.pc) (with_arena (stored_of k o v s.arena) s)))) where
  of_decoded : (d : Option Instruction) (word : ℕ) → P (step_decoded d word g s)
  of_decoded (Some i) word = of_effect P g.window s raising writing going storing (effect_of i s.regs s.pc)
  of_decoded None word = raising (Fault.Ine word)

  of_fetched : (x : Option ℕ) → P (step_fetched x g s)
  of_fetched (Some word) = of_decoded (decode_of word) word
  of_fetched None = raising (Fault.Adef s.pc)

  pub of_step : P (step_of g s)
  unfolding step_of
  of_step = of_fetched (fetch_of g.code s.pc)
