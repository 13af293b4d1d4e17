-- `opcode::divisions` meets its contract: a line for each arm, and the last one by a law over the table.
use borrow.Author.Rules.{rules}
use Rattle.opcode.specs.Families.{table}
use Rattle.opcode.proofs.Narrow.{leaf, rest}
use Rattle.opcode.proofs.divisions.Goals as goal

pub returns-in-64 : goal.returns-in-64
unfolding table
returns-in-64 c = leaf c.ranges.word 15 c.in-64.is tt

pub returns-in-65 : goal.returns-in-65
unfolding table
returns-in-65 c = leaf c.ranges.word 15 c.in-65.is tt

pub returns-in-66 : goal.returns-in-66
unfolding table
returns-in-66 c = leaf c.ranges.word 15 c.in-66.is tt

pub returns-in-67 : goal.returns-in-67
unfolding table
returns-in-67 c = leaf c.ranges.word 15 c.in-67.is tt

pub returns-in-68 : goal.returns-in-68
unfolding table
returns-in-68 c = leaf c.ranges.word 15 c.in-68.is tt

pub returns-in-69 : goal.returns-in-69
unfolding table
returns-in-69 c = leaf c.ranges.word 15 c.in-69.is tt

pub returns-in-70 : goal.returns-in-70
unfolding table
returns-in-70 c = leaf c.ranges.word 15 c.in-70.is tt

pub returns-in-71 : goal.returns-in-71
unfolding table
returns-in-71 c = leaf c.ranges.word 15 c.in-71.is tt

pub returns-in_default : goal.returns-in_default
unfolding table
returns-in_default c = rest c.ranges.word 18 15 c.requires (search rules) tt
