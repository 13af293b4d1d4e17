-- `printed::put_count` meets its contract.
use Rattle.printed.specs.Lines.{count_line}
use Rattle.page.proofs.Behind.{next_room, both}
use Rattle.printed.proofs.put_count.Goals as goal

pub put-requires : goal.put-requires
unfolding count_line
put-requires c = next_room _ _ _ _ c.requires c.put_counted.ensures

pub returns : goal.returns
unfolding count_line
returns c = both _ _ _ _ _ c.put_counted.ensures c.put.ensures
