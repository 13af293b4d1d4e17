-- `reader::registers` meets its contract.
use Rattle.std.proofs.Common.{◌∙◌, arith}
use lib.ListN.{length-set}
use Rattle.reader.proofs.Numbers.{numbers_turn, numbers_done}
use Rattle.reader.proofs.registers.Goals as goal

pub loop-i-preserved : goal.loop-i-preserved
loop-i-preserved c =
    let l = c.loop-i in (
      rw c.get.ensures.0 (numbers_turn l.regs c.args.file.now l.i 31 c.args.at (omega arith) (omega arith) ∙ l.invariant.0),
      rw length-set l.invariant.1,
    )

pub returns : goal.returns
returns c = let l = c.loop-i in numbers_done l.regs c.args.file.now l.i 31 _ (omega arith) (omega arith) ∙ l.invariant.0
