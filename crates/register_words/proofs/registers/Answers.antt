-- `register_words::registers` meets its contract: a line for each arm that reads the table, and the last one by a law over it.
use borrow.Author.Rules.{rules}
use Rattle.opcode.specs.Families.{table}
use Rattle.opcode.proofs.Narrow.{leaf, rest}
use Rattle.register_words.proofs.registers.Goals as goal

pub returns-in-3 : goal.returns-in-3
unfolding table
returns-in-3 c = rw c.of_r3i.ensures (leaf c.ranges.word 18 c.in-3.is tt)

pub returns-in_default : goal.returns-in_default
unfolding table
returns-in_default c = rest c.ranges.word 22 18 c.requires (search rules) tt
