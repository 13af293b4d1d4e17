-- `access_opcodes::indexed` meets its contract: a line for each arm, and the last one by a law over the table.
use borrow.Author.Rules.{rules}
use Rattle.opcode.specs.Families.{table}
use Rattle.opcode.proofs.Narrow.{leaf, rest}
use Rattle.access_opcodes.proofs.indexed.Goals as goal

pub returns-in-28672 : goal.returns-in-28672
unfolding table
returns-in-28672 c = leaf c.ranges.word 15 c.in-28672.is tt

pub returns-in-28680 : goal.returns-in-28680
unfolding table
returns-in-28680 c = leaf c.ranges.word 15 c.in-28680.is tt

pub returns-in-28688 : goal.returns-in-28688
unfolding table
returns-in-28688 c = leaf c.ranges.word 15 c.in-28688.is tt

pub returns-in-28696 : goal.returns-in-28696
unfolding table
returns-in-28696 c = leaf c.ranges.word 15 c.in-28696.is tt

pub returns-in-28736 : goal.returns-in-28736
unfolding table
returns-in-28736 c = leaf c.ranges.word 15 c.in-28736.is tt

pub returns-in-28744 : goal.returns-in-28744
unfolding table
returns-in-28744 c = leaf c.ranges.word 15 c.in-28744.is tt

pub returns-in-28752 : goal.returns-in-28752
unfolding table
returns-in-28752 c = leaf c.ranges.word 15 c.in-28752.is tt

pub returns-in-28704 : goal.returns-in-28704
unfolding table
returns-in-28704 c = leaf c.ranges.word 15 c.in-28704.is tt

pub returns-in-28712 : goal.returns-in-28712
unfolding table
returns-in-28712 c = leaf c.ranges.word 15 c.in-28712.is tt

pub returns-in-28720 : goal.returns-in-28720
unfolding table
returns-in-28720 c = leaf c.ranges.word 15 c.in-28720.is tt

pub returns-in-28728 : goal.returns-in-28728
unfolding table
returns-in-28728 c = leaf c.ranges.word 15 c.in-28728.is tt

pub returns-in-28760 : goal.returns-in-28760
unfolding table
returns-in-28760 c = leaf c.ranges.word 15 c.in-28760.is tt

pub returns-in_default : goal.returns-in_default
unfolding table
returns-in_default c = rest c.ranges.word 22 15 c.requires (search rules) tt
