-- `access_words::pointers` meets its contract: a line for each arm, and the last one by a law over the table.
use borrow.Author.Rules.{rules}
use Rattle.opcode.specs.Families.{table}
use Rattle.opcode.proofs.Narrow.{leaf, rest}
use Rattle.access_words.proofs.pointers.Goals as goal

pub returns-in-36 : goal.returns-in-36
unfolding table
returns-in-36 c = rw c.of_r2i.ensures (leaf c.ranges.word 24 c.in-36.is tt)

pub returns-in-38 : goal.returns-in-38
unfolding table
returns-in-38 c = rw c.of_r2i-in-38.ensures (leaf c.ranges.word 24 c.in-38.is tt)

pub returns-in-37 : goal.returns-in-37
unfolding table
returns-in-37 c = rw c.of_r2i-in-37.ensures (leaf c.ranges.word 24 c.in-37.is tt)

pub returns-in-39 : goal.returns-in-39
unfolding table
returns-in-39 c = rw c.of_r2i-in-39.ensures (leaf c.ranges.word 24 c.in-39.is tt)

pub returns-in_default : goal.returns-in_default
unfolding table
returns-in_default c = rest c.ranges.word 26 24 c.requires (search rules) tt
