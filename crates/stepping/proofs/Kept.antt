-- What a step keeps: all where it raises, register 0, the arena's length, every byte outside the window. Each goes over the four
-- kinds of step.
use mathlib.Core.Path.{◌≡◌, refl, ap, ◌∙◌}
use mathlib.Core.List.{List}
use mathlib.Core.Logic.{◌⊎◌, inl, inr}
use Prim.Native.Nat.{ℕ, ◌+◌, ◌≤◌, ◌<◌}
use native.Mathlib.Omega.{arith}
use lib.ListN.{length, get_or}
use Rattle.place.specs.declared.ArenaOffset.{ArenaOffset}
use Rattle.place.specs.declared.Width.{Width}
use Rattle.place.specs.declared.Window.{Window}
use Rattle.place.specs.Place.{Inside, bytes_of}
use Rattle.place.proofs.Reach.{beside}
use Rattle.byte_order.specs.Bytes.{put_le}
use Rattle.byte_order.proofs.Numbers.{length_put, put_below, put_above}
use Rattle.registers.specs.Registers.{reg}
use Rattle.registers.proofs.Zero.{zero_kept}
use Rattle.memory.specs.Memory.{stored_of}
use Rattle.apply.specs.Machine.{Ended}
use Rattle.cpu.proofs.Cases.{of_step}
use Rattle.cpu.proofs.Raising.{raise_unchanged}
use Rattle.stepping.specs.Stepping.{RaisingChangesNothing, ZeroStays, LengthStays, OutsideStays}

pub raising_changes_nothing : RaisingChangesNothing
raising_changes_nothing g s f e = ap (λ (x : Ended). x.state) (raise_unchanged g s f e)

pub zero_stays : ZeroStays
zero_stays g s z =
    of_step (λ (x : Ended). reg x.state.regs 0 ≡ 0) g s
    (λ f. z)
    (λ rd v to. zero_kept s.regs rd v ∙ z)
    (λ to. z)
    (λ k o v i j. z)

pub length_stays : LengthStays
unfolding stored_of
length_stays g s =
    of_step (λ (x : Ended). length x.state.arena ≡ length s.arena) g s
    (λ f. refl)
    (λ rd v to. refl)
    (λ to. refl)
    (λ k o v i j. length_put (bytes_of k) o.0 v s.arena)

-- a store in the window changes no byte outside
stored_outside : (w : Window) (k : Width) (o : ArenaOffset) (v : ℕ) (arena : List ℕ)
    → w.start.0 ≤ o.0 → o.0 + bytes_of k ≤ w.start.0 + w.len → (n : ℕ) → (Inside w n → ⊥) → get_or (stored_of k o v arena) n 0 ≡ get_or arena n 0
unfolding stored_of
stored_outside w k o v arena i j n out = go (beside w n out)
  where
    go : (n < w.start.0) ⊎ (w.start.0 + w.len ≤ n) → get_or (put_le (bytes_of k) o.0 v arena) n 0 ≡ get_or arena n 0
    go (inl l) = put_below (bytes_of k) o.0 v arena n (omega arith)
    go (inr l) = put_above (bytes_of k) o.0 v arena n (omega arith)

pub outside_stays : OutsideStays
outside_stays g s =
    of_step (λ (x : Ended). (n : ℕ) → (Inside g.window n → ⊥) → get_or x.state.arena n 0 ≡ get_or s.arena n 0) g s
    (λ f n out. refl)
    (λ rd v to n out. refl)
    (λ to n out. refl)
    (λ k o v i j. stored_outside g.window k o v s.arena i j)
