-- `opcode::shifts` meets its contract: a line for each arm, and the last one by a law over the table.
use borrow.Author.Rules.{rules}
use Rattle.opcode.specs.Families.{table}
use Rattle.opcode.proofs.Narrow.{leaf, rest}
use Rattle.opcode.proofs.shifts.Goals as goal

pub returns-in-48 : goal.returns-in-48
unfolding table
returns-in-48 c = leaf c.ranges.word 15 c.in-48.is tt

pub returns-in-54 : goal.returns-in-54
unfolding table
returns-in-54 c = leaf c.ranges.word 15 c.in-54.is tt

pub returns-in-49 : goal.returns-in-49
unfolding table
returns-in-49 c = leaf c.ranges.word 15 c.in-49.is tt

pub returns-in-50 : goal.returns-in-50
unfolding table
returns-in-50 c = leaf c.ranges.word 15 c.in-50.is tt

pub returns-in-51 : goal.returns-in-51
unfolding table
returns-in-51 c = leaf c.ranges.word 15 c.in-51.is tt

pub returns-in-55 : goal.returns-in-55
unfolding table
returns-in-55 c = leaf c.ranges.word 15 c.in-55.is tt

pub returns-in_default : goal.returns-in_default
unfolding table
returns-in_default c = rest c.ranges.word 18 15 c.requires (search rules) tt
