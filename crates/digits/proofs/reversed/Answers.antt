-- `digits::reversed` meets its contract. The invariant: r has the k lowest groups in the other order, and rest is what stands above them.
use mathlib.Core.Path.{refl}
use native.Mathlib.Omega.{arith}
use Rattle.digits.specs.Reverse.{reverse}
use Rattle.digits.proofs.Groups.{group_in, group_off, group_fits, none_yet}
use Rattle.digits.proofs.reversed.Goals as goal

pub loop-k-init : goal.loop-k-init
unfolding reverse
loop-k-init c = (omega arith, refl, none_yet c.args.bits c.args.x)

pub overflow_add-r : goal.overflow_add-r
overflow_add-r c =
    let a = c.args in
    let l = c.loop-k in
    record { fits = group_fits a.bits a.groups a.x l.k c.loop-k-test.true c.requires.1 l.invariant.1 l.invariant.2 c.low_bits.ensures }

pub loop-k-preserved : goal.loop-k-preserved
loop-k-preserved c =
    let a = c.args in
    let l = c.loop-k in
    let h = c.loop-k-test.true in
    let f = c.requires.1 in
    (omega arith, group_in a.bits a.groups a.x l.k h f l.invariant.1 l.invariant.2 c.low_bits.ensures, group_off a.bits a.groups a.x l.k h f l.invariant.1 l.invariant.2 c.low_bits.ensures)
