-- What the code's comparison says on whole numbers, and what the window check answers for.
use mathlib.Core.Path.{◌≡◌}
use Rattle.std.specs.Prelude.{Some, None}
use mathlib.Core.Bool.{true, false}
use mathlib.Core.Logic.{◌⊎◌}
use Prim.Native.Nat.{ℕ, ◌+◌, ◌-◌, ◌≤◌, ◌<◌}
use native.Mathlib.Omega.{arith}
use Rattle.std.proofs.lemmas.Bool.Decides.{nat_tests}
use Rattle.place.specs.declared.GuestAddr.{GuestAddr}
use Rattle.place.specs.declared.ArenaOffset.{ArenaOffset}
use Rattle.place.specs.declared.CodeOffset.{CodeOffset}
use Rattle.place.specs.declared.Window.{Window}
use Rattle.place.specs.declared.Width.{Width}
use Rattle.place.specs.declared.Width.TheVariants.{Byte, Half, Word, Double}
use Rattle.place.specs.Place.{Inside, bytes_of, within_of, within_at, locate_of, fetch_place_of}

pub bytes_small : (k : Width) → (0 < bytes_of k) × (bytes_of k ≤ 8)
bytes_small Byte = omega arith
bytes_small Half = omega arith
bytes_small Word = omega arith
bytes_small Double = omega arith

-- what is within lies there as a whole
pub within_true : (base len a n : ℕ) → within_of base len a n ≡ true → (base ≤ a) × (a + n ≤ base + len)
within_true base len a n e = grind (arith, nat_tests)

-- and what is found stands as far from the base
pub reached : (base len a n d : ℕ) → within_at base len a n ≡ Some d → (within_of base len a n ≡ true) × (d ≡ a - base)
reached base len a n d e = grind (arith, nat_tests)

pub unreached : (base len a n : ℕ) → within_at base len a n ≡ None → within_of base len a n ≡ false
unreached base len a n e = grind (arith, nat_tests)

-- what is not in the window lies below it or above
pub beside : (w : Window) (i : ℕ) → (Inside w i → ⊥) → (i < w.start.0) ⊎ (w.start.0 + w.len ≤ i)
beside w i out = grind (arith, nat_tests)

-- what the window check finds lies in the window
pub located_inside : (w : Window) (a : GuestAddr) (k : Width) (o : ArenaOffset) → locate_of w a k ≡ Some o
    → (w.start.0 ≤ o.0) × (o.0 + bytes_of k ≤ w.start.0 + w.len)
unfolding locate_of
located_inside w a k o e = grind (arith, nat_tests)

-- what is fetched lies in the code
pub fetched_inside : (len : ℕ) (pc : GuestAddr) (o : CodeOffset) → fetch_place_of len pc ≡ Some o → o.0 + 4 ≤ len
unfolding fetch_place_of
fetched_inside len pc o e = grind (arith, nat_tests)
