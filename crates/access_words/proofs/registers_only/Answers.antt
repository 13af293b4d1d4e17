-- `access_words::registers_only` meets its contract: a line for each arm that reads the table, and the last one by a law over it.
use borrow.Author.Rules.{rules}
use Rattle.opcode.specs.Families.{table}
use Rattle.opcode.proofs.Narrow.{rest}
use Rattle.access_words.proofs.registers_only.Goals as goal

pub returns-in_default : goal.returns-in_default
unfolding table
returns-in_default c = rest c.ranges.word 26 22 c.requires (search rules) tt
