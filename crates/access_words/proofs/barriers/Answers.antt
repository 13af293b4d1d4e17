-- `access_words::barriers` meets its contract: a line for each arm, and the last one by a law over the table.
use borrow.Author.Rules.{rules}
use Rattle.opcode.specs.Families.{table}
use Rattle.opcode.proofs.Narrow.{leaf, rest}
use Rattle.access_words.proofs.barriers.Goals as goal

pub returns-in-28900 : goal.returns-in-28900
unfolding table
returns-in-28900 c = rw c.of_i15-o.ensures (leaf c.ranges.word 15 c.in-28900.is tt)

pub returns-in-28901 : goal.returns-in-28901
unfolding table
returns-in-28901 c = rw c.of_i15-o.ensures (leaf c.ranges.word 15 c.in-28901.is tt)

pub returns-in_default : goal.returns-in_default
unfolding table
returns-in_default c = rest c.ranges.word 22 15 c.requires (search rules) tt
