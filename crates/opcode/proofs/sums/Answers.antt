-- `opcode::sums` meets its contract: a line for each arm, and the last one by a law over the table.
use borrow.Author.Rules.{rules}
use Rattle.opcode.specs.Families.{table}
use Rattle.opcode.proofs.Narrow.{leaf, rest}
use Rattle.opcode.proofs.sums.Goals as goal

pub returns-in-32 : goal.returns-in-32
unfolding table
returns-in-32 c = leaf c.ranges.word 15 c.in-32.is tt

pub returns-in-33 : goal.returns-in-33
unfolding table
returns-in-33 c = leaf c.ranges.word 15 c.in-33.is tt

pub returns-in-34 : goal.returns-in-34
unfolding table
returns-in-34 c = leaf c.ranges.word 15 c.in-34.is tt

pub returns-in-35 : goal.returns-in-35
unfolding table
returns-in-35 c = leaf c.ranges.word 15 c.in-35.is tt

pub returns-in-36 : goal.returns-in-36
unfolding table
returns-in-36 c = leaf c.ranges.word 15 c.in-36.is tt

pub returns-in-37 : goal.returns-in-37
unfolding table
returns-in-37 c = leaf c.ranges.word 15 c.in-37.is tt

pub returns-in-38 : goal.returns-in-38
unfolding table
returns-in-38 c = leaf c.ranges.word 15 c.in-38.is tt

pub returns-in-39 : goal.returns-in-39
unfolding table
returns-in-39 c = leaf c.ranges.word 15 c.in-39.is tt

pub returns-in_default : goal.returns-in_default
unfolding table
returns-in_default c = rest c.ranges.word 18 15 c.requires (search rules) tt
