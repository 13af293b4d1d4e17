-- `digits::reversed` meets its contract. The invariant: r has the k lowest groups in the other order, and rest is what stands above them.
use mathlib.Core.Path.{◌≡◌}
use Prim.Native.Nat.{◌-◌, ◌*◌, ◌/◌, ◌^◌, ◌≤◌}
use Rattle.digits.specs.Reverse.{reverse}
use Rattle.digits.proofs.reversed.Given as goal

abbrev pub invariant-loop-k : goal.invariant-loop-k
invariant-loop-k l = (l.k ≤ l.groups) × (l.r ≡ reverse l.bits l.k l.x) × (l.rest ≡ l.x / 2 ^ (l.bits * l.k))

abbrev pub decreases-loop-k : goal.decreases-loop-k
decreases-loop-k l = l.groups - l.k
