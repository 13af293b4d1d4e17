-- `printed::put_registers` meets its contract.
use Rattle.std.proofs.Common.{arith}
use Rattle.page.proofs.Behind.{nothing, first_room, next_room, both}
use Rattle.printed.proofs.Lengths.{registers_turn, registers_none}
use Rattle.printed.proofs.put_registers.Goals as goal

pub loop-i-init : goal.loop-i-init
loop-i-init c = (c.requires, λ q h. h)

pub put_register-requires : goal.put_register-requires
put_register-requires c =
    let l = c.loop-i in
    first_room _ _ l.page (rw (registers_turn c.args.regs.now l.i (omega arith)) at l.invariant.0)

pub loop-i-preserved : goal.loop-i-preserved
loop-i-preserved c =
    let l = c.loop-i in
    let e = registers_turn c.args.regs.now l.i (omega arith) in
    let put = c.put_register.ensures in
    (next_room _ _ l.page _ (rw e at l.invariant.0) put, λ q h. l.invariant.1 q (rw e (both _ _ _ _ _ put h)))

pub returns : goal.returns
returns c =
    let l = c.loop-i in
    l.invariant.1 _ (rw (registers_none c.args.regs.now l.i (omega arith)) (nothing _))
