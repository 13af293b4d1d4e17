-- What an accepted run has: no test of the list is due.
use mathlib.Core.Path.{◌≡◌, refl}
use mathlib.Core.Bool.{Bool, true, false, cond}
use mathlib.Core.List.{List, [], ◌∷◌}
use Prim.Native.Nat.{ℕ, ◌+◌, ◌^◌, ◌≤◌}
use native.Mathlib.Omega.{arith}
use borrow.Author.Tests.{ltb-false}
use Rattle.std.specs.Prelude.{Ok, Err}
use Rattle.place.specs.declared.Window.{Window}
use Rattle.session.specs.declared.Session.{Session}
use Rattle.refuse.specs.Refusals.{place_due, total_due, Test, verdict_of, run_tests}

-- none is due
abbrev pub Clear : List Test → Type 0
Clear [] = Unit {0}
Clear (t ∷ ts) = (t.due ≡ false) × Clear ts

pub all_clear : (ts : List Test) → verdict_of ts ≡ Ok tt → Clear ts
all_clear [] e = tt
all_clear (t ∷ ts) e = go t.due (all_clear ts) e
  where
    go : (b : Bool) → (verdict_of ts ≡ Ok tt → Clear ts) → cond b (Err t.refusal) (verdict_of ts) ≡ Ok tt
        → (b ≡ false) × Clear ts
    go true rest f = let z : ◌≡◌ {A = ℕ} 0 1 = cc in absurd (omega arith)
    go false rest f = (refl, rest f)

-- the window lies in the arena, and the total has room for the budget
pub accepted : (code arena : ℕ) (w : Window) (s : Session) (budget : ℕ) → verdict_of (run_tests code arena w s budget) ≡ Ok tt
    → (w.start.0 + w.len ≤ arena) × (s.total + budget ≤ 2 ^ 63)
unfolding place_due total_due
accepted code arena w s budget e =
    let c = all_clear (run_tests code arena w s budget) e in
    (ltb-false arena (w.start.0 + w.len) c.1.1.0, ltb-false (2 ^ 63) (s.total + budget) c.1.1.1.1.1.0)
