-- `printed::put_register` meets its contract.
use borrow.Author.Tests.{ne_eqb}
use Rattle.printed.specs.Lines.{register_line}
use Rattle.page.proofs.Behind.{next_room, both}
use Rattle.printed.proofs.put_register.Goals as goal

pub put_valued-requires : goal.put_valued-requires
unfolding register_line
put_valued-requires c = next_room _ _ c.args.page.now _ (rw (ne_eqb c.args.value 0 c.if-value-ne0.true) at c.requires) c.put_counted.ensures

pub returns-then-value-ne0 : goal.returns-then-value-ne0
unfolding register_line
returns-then-value-ne0 c = rw (ne_eqb c.args.value 0 c.if-value-ne0.true) (both _ _ _ _ _ c.put_counted.ensures c.put_valued.ensures)
