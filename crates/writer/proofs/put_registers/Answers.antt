-- `writer::put_registers` meets its contract.
use Rattle.std.proofs.Common.{[], ◌∷◌, ◌-◌, arith, length, take, drop}
use Rattle.page.proofs.Behind.{nothing, first_room, next_room, both}
use Rattle.writer.proofs.Words.{each_turn, each_done}
use Rattle.writer.proofs.put_registers.Goals as goal

pub put_word-requires : goal.put_word-requires
put_word-requires c =
    let l = c.loop-value in first_room _ _ l.page (rw (each_turn _ l.value-index c.loop-value-test.true) at l.invariant.1)

pub loop-value-preserved : goal.loop-value-preserved
loop-value-preserved c =
    let l = c.loop-value in
    let e = each_turn _ l.value-index c.loop-value-test.true in
    let put = c.put_word.ensures in
    (l.invariant.0, next_room _ _ l.page _ (rw e at l.invariant.1) put, λ q h. l.invariant.2 q (rw e (both _ _ _ _ _ put h)))

pub returns : goal.returns
returns c =
    let l = c.loop-value in
    let xs = take (length c.args.session.regs - 1) (drop 1 c.args.session.regs) in
    let none = each_done xs l.value-index (omega arith) in
    let rest = l.invariant.2 l.page (rw none (nothing l.page)) in
    both (2 ∷ []) _ _ _ _ c.put.ensures (rw l.invariant.0 at rest)
