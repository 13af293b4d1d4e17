-- `opcode::bitwise` meets its contract: a line for each arm, and the last one by a law over the table.
use borrow.Author.Rules.{rules}
use Rattle.opcode.specs.Families.{table}
use Rattle.opcode.proofs.Narrow.{leaf, rest}
use Rattle.opcode.proofs.bitwise.Goals as goal

pub returns-in-41 : goal.returns-in-41
unfolding table
returns-in-41 c = leaf c.ranges.word 15 c.in-41.is tt

pub returns-in-42 : goal.returns-in-42
unfolding table
returns-in-42 c = leaf c.ranges.word 15 c.in-42.is tt

pub returns-in-40 : goal.returns-in-40
unfolding table
returns-in-40 c = leaf c.ranges.word 15 c.in-40.is tt

pub returns-in-43 : goal.returns-in-43
unfolding table
returns-in-43 c = leaf c.ranges.word 15 c.in-43.is tt

pub returns-in-45 : goal.returns-in-45
unfolding table
returns-in-45 c = leaf c.ranges.word 15 c.in-45.is tt

pub returns-in-44 : goal.returns-in-44
unfolding table
returns-in-44 c = leaf c.ranges.word 15 c.in-44.is tt

pub returns-in-46 : goal.returns-in-46
unfolding table
returns-in-46 c = leaf c.ranges.word 15 c.in-46.is tt

pub returns-in-47 : goal.returns-in-47
unfolding table
returns-in-47 c = leaf c.ranges.word 15 c.in-47.is tt

pub returns-in_default : goal.returns-in_default
unfolding table
returns-in_default c = rest c.ranges.word 18 15 c.requires (search rules) tt
