-- `digits::reversed_each` meets its contract. The invariant: r has the k lowest parts.
use mathlib.Core.Path.{refl}
use native.Mathlib.Omega.{arith}
use Rattle.digits.specs.Reverse.{reverse_each}
use Rattle.digits.proofs.Groups.{part_in, part_fits}
use Rattle.digits.proofs.reversed_each.Goals as goal

pub loop-k-init : goal.loop-k-init
unfolding reverse_each
loop-k-init c = (omega arith, refl)

pub overflow_add-r : goal.overflow_add-r
overflow_add-r c =
    let a = c.args in
    let l = c.loop-k in
    record { fits = part_fits a.bits a.groups a.parts a.x l.k c.loop-k-test.true c.requires.3 l.invariant.1 c.reversed.ensures }

pub loop-k-preserved : goal.loop-k-preserved
loop-k-preserved c =
    let a = c.args in
    let l = c.loop-k in
    (omega arith, part_in a.bits a.groups a.parts a.x l.k c.loop-k-test.true c.requires.3 l.invariant.1 c.reversed.ensures)
