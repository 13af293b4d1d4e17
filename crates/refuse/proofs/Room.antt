-- A comparison with what is left is the comparison of the sum, on whole numbers: the code's way against the definition's.
use mathlib.Core.Path.{◌≡◌, refl, sym, ◌∙◌}
use mathlib.Core.Bool.{Bool, true, false}
use Prim.Native.Nat.{ℕ, ◌+◌, ◌-◌, ◌≤◌, ◌<◌}
use native.Mathlib.Omega.{arith}
use lib.Dec.{ltb}
use borrow.Author.Tests.{ltb-true, ltb-false, lt-ltb, le-ltb}

pub left_over : (m a b : ℕ) → a ≤ m → ltb (m - a) b ≡ ltb m (b + a)
left_over m a b h = go (ltb (m - a) b) refl
  where
    go : (t : Bool) → ltb (m - a) b ≡ t → ltb (m - a) b ≡ ltb m (b + a)
    go true e = let l = ltb-true (m - a) b e in e ∙ sym (lt-ltb m (b + a) (omega arith))
    go false e = let l = ltb-false (m - a) b e in e ∙ sym (le-ltb m (b + a) (omega arith))

pub over : (m a b : ℕ) → m < a → ltb m a ≡ ltb m (b + a)
over m a b h = lt-ltb m a h ∙ sym (lt-ltb m (b + a) (omega arith))
