-- `short_words::traps` meets its contract: a line for each arm, and the last one by a law over the table.
use borrow.Author.Rules.{rules}
use Rattle.opcode.specs.Families.{table}
use Rattle.opcode.proofs.Narrow.{leaf, rest}
use Rattle.short_words.proofs.traps.Goals as goal

pub returns-in-86 : goal.returns-in-86
unfolding table
returns-in-86 c = rw c.of_i15-o.ensures (leaf c.ranges.word 15 c.in-86.is tt)

pub returns-in-84 : goal.returns-in-84
unfolding table
returns-in-84 c = rw c.of_i15-o.ensures (leaf c.ranges.word 15 c.in-84.is tt)

pub returns-in_default : goal.returns-in_default
unfolding table
returns-in_default c = rest c.ranges.word 18 15 c.requires (search rules) tt
