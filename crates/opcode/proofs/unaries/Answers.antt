-- `opcode::unaries` meets its contract: a line for each arm, and the last one by a law over the table.
use borrow.Author.Rules.{rules}
use Rattle.opcode.specs.Families.{table}
use Rattle.opcode.proofs.Narrow.{leaf, rest}
use Rattle.opcode.proofs.unaries.Goals as goal

pub returns-in-23 : goal.returns-in-23
unfolding table
returns-in-23 c = leaf c.ranges.word 10 c.in-23.is tt

pub returns-in-22 : goal.returns-in-22
unfolding table
returns-in-22 c = leaf c.ranges.word 10 c.in-22.is tt

pub returns-in-4 : goal.returns-in-4
unfolding table
returns-in-4 c = leaf c.ranges.word 10 c.in-4.is tt

pub returns-in-8 : goal.returns-in-8
unfolding table
returns-in-8 c = leaf c.ranges.word 10 c.in-8.is tt

pub returns-in-5 : goal.returns-in-5
unfolding table
returns-in-5 c = leaf c.ranges.word 10 c.in-5.is tt

pub returns-in-9 : goal.returns-in-9
unfolding table
returns-in-9 c = leaf c.ranges.word 10 c.in-9.is tt

pub returns-in-6 : goal.returns-in-6
unfolding table
returns-in-6 c = leaf c.ranges.word 10 c.in-6.is tt

pub returns-in-10 : goal.returns-in-10
unfolding table
returns-in-10 c = leaf c.ranges.word 10 c.in-10.is tt

pub returns-in-7 : goal.returns-in-7
unfolding table
returns-in-7 c = leaf c.ranges.word 10 c.in-7.is tt

pub returns-in-11 : goal.returns-in-11
unfolding table
returns-in-11 c = leaf c.ranges.word 10 c.in-11.is tt

pub returns-in-12 : goal.returns-in-12
unfolding table
returns-in-12 c = leaf c.ranges.word 10 c.in-12.is tt

pub returns-in-13 : goal.returns-in-13
unfolding table
returns-in-13 c = leaf c.ranges.word 10 c.in-13.is tt

pub returns-in-14 : goal.returns-in-14
unfolding table
returns-in-14 c = leaf c.ranges.word 10 c.in-14.is tt

pub returns-in-15 : goal.returns-in-15
unfolding table
returns-in-15 c = leaf c.ranges.word 10 c.in-15.is tt

pub returns-in-16 : goal.returns-in-16
unfolding table
returns-in-16 c = leaf c.ranges.word 10 c.in-16.is tt

pub returns-in-17 : goal.returns-in-17
unfolding table
returns-in-17 c = leaf c.ranges.word 10 c.in-17.is tt

pub returns-in-18 : goal.returns-in-18
unfolding table
returns-in-18 c = leaf c.ranges.word 10 c.in-18.is tt

pub returns-in-19 : goal.returns-in-19
unfolding table
returns-in-19 c = leaf c.ranges.word 10 c.in-19.is tt

pub returns-in-20 : goal.returns-in-20
unfolding table
returns-in-20 c = leaf c.ranges.word 10 c.in-20.is tt

pub returns-in-21 : goal.returns-in-21
unfolding table
returns-in-21 c = leaf c.ranges.word 10 c.in-21.is tt

pub returns-in-27 : goal.returns-in-27
unfolding table
returns-in-27 c = leaf c.ranges.word 10 c.in-27.is tt

pub returns-in_default : goal.returns-in_default
unfolding table
returns-in_default c = rest c.ranges.word 15 10 c.requires (search rules) tt
