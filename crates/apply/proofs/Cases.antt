-- What an effect comes to is one of four: it raises, it writes a register, it only goes on, or it stores in the window. What holds of these
-- four holds of every effect.
use mathlib.Core.Path.{◌≡◌, refl}
use Rattle.std.specs.Prelude.{Result, Ok, Err}
use Prim.Native.Nat.{ℕ, ◌+◌, ◌≤◌}
use Rattle.place.specs.declared.ArenaOffset.{ArenaOffset}
use Rattle.place.specs.declared.GuestAddr.{GuestAddr}
use Rattle.place.specs.declared.Width.{Width}
use Rattle.place.specs.declared.Window.{Window}
use Rattle.place.specs.Place.{bytes_of}
use Rattle.registers.specs.Registers.{written}
use Rattle.fault.specs.declared.Fault.{Fault}
use Rattle.memory.specs.Memory.{load_width_of, loaded_of, stored_of}
use Rattle.operate.specs.Operate.{next_of}
use Rattle.effect.specs.declared.Effect.{Effect}
use Rattle.apply.specs.Machine.{State, Ended, with_pc, with_regs, with_arena, done, raised}
use Rattle.apply.specs.Apply.{load_of, store_of, access_of, apply_of}
use Rattle.apply.proofs.Accesses.{access_inside}

module _ (P : Ended → Type 0) (w : Window) (s : State)
    (raising : (f : Fault) → P (raised f s))
    (writing : (rd v : ℕ) (to : GuestAddr) → P (done (with_pc to (with_regs (written s.regs rd v) s))))
    (going : (to : GuestAddr) → P (done (with_pc to s)))
    (storing : (k : Width) (o : ArenaOffset) (v : ℕ) → w.start.0 ≤ o.0 → o.0 + bytes_of k ≤ w.start.0 + w.len
    → P (done (with_pc (next_of s.pc) (with_arena (stored_of k o v s.arena) s)))) where
  pub of_effect : (e : Effect) → P (apply_of w e s)
  unfolding apply_of
  of_effect (Effect.Write rd v to) = writing rd v to
  of_effect (Effect.Jump to) = going to
  of_effect (Effect.Load kind rd a) = load (access_of w a (load_width_of kind))
    where
      load : (x : Result ArenaOffset Fault) → P (load_of x kind rd s)
      load (Ok o) = writing rd (loaded_of kind o s.arena) (next_of s.pc)
      load (Err f) = raising f
  of_effect (Effect.Store k v a) = store (access_of w a k) refl
    where
      store : (x : Result ArenaOffset Fault) → access_of w a k ≡ x → P (store_of x k v s)
      store (Ok o) e = let i = access_inside w a k o e in storing k o v i.0 i.1
      store (Err f) e = raising f
  of_effect (Effect.Raise f) = raising f
