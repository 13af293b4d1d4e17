-- `printed::put_state` meets its contract.
use Rattle.printed.specs.Lines.{state_lines}
use Rattle.page.proofs.Behind.{first_room, next_room, both}
use Rattle.printed.proofs.put_state.Goals as goal

pub put_count-requires : goal.put_count-requires
unfolding state_lines
put_count-requires c = first_room _ _ c.args.page.now (first_room _ _ c.args.page.now c.requires)

pub put_valued-requires : goal.put_valued-requires
unfolding state_lines
put_valued-requires c = next_room _ _ _ _ (first_room _ _ c.args.page.now c.requires) c.put_count.ensures

pub put_registers-requires : goal.put_registers-requires
unfolding state_lines
put_registers-requires c = next_room _ _ c.args.page.now _ c.requires (both _ _ _ _ _ c.put_count.ensures c.put_valued.ensures)

pub returns : goal.returns
unfolding state_lines
returns c = both _ _ _ _ _ (both _ _ _ _ _ c.put_count.ensures c.put_valued.ensures) c.put_registers.ensures
