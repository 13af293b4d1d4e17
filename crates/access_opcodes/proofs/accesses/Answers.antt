-- `access_opcodes::accesses` meets its contract: a line for each arm, and the last one by a law over the table.
use borrow.Author.Rules.{rules}
use Rattle.opcode.specs.Families.{table}
use Rattle.opcode.proofs.Narrow.{leaf, rest}
use Rattle.access_opcodes.proofs.accesses.Goals as goal

pub returns-in-160 : goal.returns-in-160
unfolding table
returns-in-160 c = leaf c.ranges.word 22 c.in-160.is tt

pub returns-in-161 : goal.returns-in-161
unfolding table
returns-in-161 c = leaf c.ranges.word 22 c.in-161.is tt

pub returns-in-162 : goal.returns-in-162
unfolding table
returns-in-162 c = leaf c.ranges.word 22 c.in-162.is tt

pub returns-in-163 : goal.returns-in-163
unfolding table
returns-in-163 c = leaf c.ranges.word 22 c.in-163.is tt

pub returns-in-168 : goal.returns-in-168
unfolding table
returns-in-168 c = leaf c.ranges.word 22 c.in-168.is tt

pub returns-in-169 : goal.returns-in-169
unfolding table
returns-in-169 c = leaf c.ranges.word 22 c.in-169.is tt

pub returns-in-170 : goal.returns-in-170
unfolding table
returns-in-170 c = leaf c.ranges.word 22 c.in-170.is tt

pub returns-in-164 : goal.returns-in-164
unfolding table
returns-in-164 c = leaf c.ranges.word 22 c.in-164.is tt

pub returns-in-165 : goal.returns-in-165
unfolding table
returns-in-165 c = leaf c.ranges.word 22 c.in-165.is tt

pub returns-in-166 : goal.returns-in-166
unfolding table
returns-in-166 c = leaf c.ranges.word 22 c.in-166.is tt

pub returns-in-167 : goal.returns-in-167
unfolding table
returns-in-167 c = leaf c.ranges.word 22 c.in-167.is tt

pub returns-in-171 : goal.returns-in-171
unfolding table
returns-in-171 c = leaf c.ranges.word 22 c.in-171.is tt

pub returns-in_default : goal.returns-in_default
unfolding table
returns-in_default c = rest c.ranges.word 26 22 c.requires (search rules) tt
