-- `opcode::products` meets its contract: a line for each arm, and the last one by a law over the table.
use borrow.Author.Rules.{rules}
use Rattle.opcode.specs.Families.{table}
use Rattle.opcode.proofs.Narrow.{leaf, rest}
use Rattle.opcode.proofs.products.Goals as goal

pub returns-in-56 : goal.returns-in-56
unfolding table
returns-in-56 c = leaf c.ranges.word 15 c.in-56.is tt

pub returns-in-59 : goal.returns-in-59
unfolding table
returns-in-59 c = leaf c.ranges.word 15 c.in-59.is tt

pub returns-in-57 : goal.returns-in-57
unfolding table
returns-in-57 c = leaf c.ranges.word 15 c.in-57.is tt

pub returns-in-58 : goal.returns-in-58
unfolding table
returns-in-58 c = leaf c.ranges.word 15 c.in-58.is tt

pub returns-in-60 : goal.returns-in-60
unfolding table
returns-in-60 c = leaf c.ranges.word 15 c.in-60.is tt

pub returns-in-61 : goal.returns-in-61
unfolding table
returns-in-61 c = leaf c.ranges.word 15 c.in-61.is tt

pub returns-in-62 : goal.returns-in-62
unfolding table
returns-in-62 c = leaf c.ranges.word 15 c.in-62.is tt

pub returns-in-63 : goal.returns-in-63
unfolding table
returns-in-63 c = leaf c.ranges.word 15 c.in-63.is tt

pub returns-in_default : goal.returns-in_default
unfolding table
returns-in_default c = rest c.ranges.word 18 15 c.requires (search rules) tt
