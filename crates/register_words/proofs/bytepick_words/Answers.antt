-- `register_words::bytepick_words` meets its contract: a line for each arm, and the last one by a law over the table.
use borrow.Author.Rules.{rules}
use Rattle.opcode.specs.Families.{table}
use Rattle.opcode.proofs.Narrow.{leaf, rest}
use Rattle.register_words.proofs.bytepick_words.Goals as goal

pub returns-in-4 : goal.returns-in-4
unfolding table
returns-in-4 c = rw c.of_r3i.ensures (leaf c.ranges.word 17 c.in-4.is tt)

pub returns-in_default : goal.returns-in_default
unfolding table
returns-in_default c = rest c.ranges.word 18 17 c.requires (search rules) tt
