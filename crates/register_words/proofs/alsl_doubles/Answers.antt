-- `register_words::alsl_doubles` meets its contract: a line for each arm, and the last one by a law over the table.
use borrow.Author.Rules.{rules}
use Rattle.opcode.specs.Families.{table}
use Rattle.opcode.proofs.Narrow.{leaf, rest}
use Rattle.register_words.proofs.alsl_doubles.Goals as goal

pub returns-in-22 : goal.returns-in-22
unfolding table
returns-in-22 c = rw c.of_r3i.ensures (leaf c.ranges.word 17 c.in-22.is tt)

pub returns-in_default : goal.returns-in_default
unfolding table
returns-in_default c = rest c.ranges.word 18 17 c.requires (search rules) tt
