-- `printed::put_counted` meets its contract.
use Rattle.printed.specs.Lines.{counted}
use Rattle.page.proofs.Behind.{next_room, both}
use Rattle.printed.proofs.put_counted.Goals as goal

pub put_decimal-requires : goal.put_decimal-requires
unfolding counted
put_decimal-requires c = next_room _ _ c.args.page.now _ c.requires c.put.ensures

pub returns : goal.returns
unfolding counted
returns c = both _ _ _ _ _ c.put.ensures c.put_decimal.ensures
