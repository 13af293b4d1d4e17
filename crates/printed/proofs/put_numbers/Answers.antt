-- `printed::put_numbers` meets its contract.
use Rattle.printed.specs.Lines.{numbers_line}
use Rattle.page.proofs.Behind.{first_room, next_room, both}
use Rattle.printed.proofs.put_numbers.Goals as goal

pub put_counted-requires-2 : goal.put_counted-requires-2
unfolding numbers_line
put_counted-requires-2 c = next_room _ _ _ _ (first_room _ _ c.args.page.now c.requires) c.put_counted.ensures

pub put_valued-requires : goal.put_valued-requires
unfolding numbers_line
put_valued-requires c = next_room _ _ c.args.page.now _ c.requires (both _ _ _ _ _ c.put_counted.ensures c.put_counted-2.ensures)

pub returns : goal.returns
unfolding numbers_line
returns c = both _ _ _ _ _ (both _ _ _ _ _ c.put_counted.ensures c.put_counted-2.ensures) c.put_valued.ensures
