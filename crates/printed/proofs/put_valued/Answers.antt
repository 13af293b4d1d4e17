-- `printed::put_valued` meets its contract.
use Rattle.printed.specs.Digits.{hex16}
use Rattle.printed.specs.Lines.{valued}
use Rattle.page.proofs.Behind.{first_room, next_room, both}
use Rattle.printed.proofs.put_valued.Goals as goal

pub put_hex-requires : goal.put_hex-requires
unfolding valued hex16
put_hex-requires c = next_room _ _ _ _ (first_room _ _ c.args.page.now c.requires) c.put.ensures

pub put-requires-2 : goal.put-requires-2
unfolding valued hex16
put-requires-2 c = next_room _ _ c.args.page.now _ c.requires (both _ _ _ _ _ c.put.ensures c.put_hex.ensures)

pub returns : goal.returns
unfolding valued hex16
returns c = both _ _ _ _ _ (both _ _ _ _ _ c.put.ensures c.put_hex.ensures) c.put-2.ensures
