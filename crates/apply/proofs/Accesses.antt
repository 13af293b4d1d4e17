-- What an access that is let through reaches.
use mathlib.Core.Path.{◌≡◌}
use Rattle.std.specs.Prelude.{Ok}
use Prim.Native.Nat.{◌+◌, ◌≤◌}
use native.Mathlib.Omega.{arith}
use Rattle.std.proofs.lemmas.Bool.Decides.{nat_tests}
use Rattle.place.specs.declared.ArenaOffset.{ArenaOffset}
use Rattle.place.specs.declared.GuestAddr.{GuestAddr}
use Rattle.place.specs.declared.Width.{Width}
use Rattle.place.specs.declared.Window.{Window}
use Rattle.place.specs.Place.{bytes_of}
use Rattle.place.proofs.Reach.{located_inside}
use Rattle.apply.specs.Apply.{access_of}

-- it lies in the window, all of it
pub access_inside : (w : Window) (a : GuestAddr) (k : Width) (o : ArenaOffset) → access_of w a k ≡ Ok o
    → (w.start.0 ≤ o.0) × (o.0 + bytes_of k ≤ w.start.0 + w.len)
unfolding access_of
access_inside w a k o e = grind (arith, nat_tests, located_inside)
