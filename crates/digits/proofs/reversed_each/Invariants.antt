-- `digits::reversed_each` meets its contract. The invariant: r has the k lowest parts.
use mathlib.Core.Path.{◌≡◌}
use Prim.Native.Nat.{◌-◌, ◌≤◌}
use Rattle.digits.specs.Reverse.{reverse_each}
use Rattle.digits.proofs.reversed_each.Given as goal

abbrev pub invariant-loop-k : goal.invariant-loop-k
invariant-loop-k l = (l.k ≤ l.parts) × (l.r ≡ reverse_each l.bits l.groups l.k l.x)

abbrev pub decreases-loop-k : goal.decreases-loop-k
decreases-loop-k l = l.parts - l.k
