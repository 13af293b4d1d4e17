-- `short_immediates::shift_immediates` meets its contract: a line for each arm, and the last one by a law over the table.
use mathlib.Core.Path.{◌∙◌}
use borrow.Author.Rules.{rules}
use Rattle.opcode.specs.Families.{table}
use Rattle.opcode.proofs.Narrow.{leaf, rest, bit}
use Rattle.short_immediates.proofs.shift_immediates.Goals as goal

pub returns-in-64 : goal.returns-in-64
unfolding table
returns-in-64 c = c.word_shift.ensures ∙ bit c.ranges.word 15 c.in-64.is tt tt

pub returns-in-68 : goal.returns-in-68
unfolding table
returns-in-68 c = c.word_shift-in-68.ensures ∙ bit c.ranges.word 15 c.in-68.is tt tt

pub returns-in-72 : goal.returns-in-72
unfolding table
returns-in-72 c = c.word_shift-in-72.ensures ∙ bit c.ranges.word 15 c.in-72.is tt tt

pub returns-in-76 : goal.returns-in-76
unfolding table
returns-in-76 c = c.word_shift-in-76.ensures ∙ bit c.ranges.word 15 c.in-76.is tt tt

pub returns-in-65 : goal.returns-in-65
unfolding table
returns-in-65 c = rw c.of_r2i.ensures (leaf c.ranges.word 16 c.in-65.is tt)

pub returns-in-69 : goal.returns-in-69
unfolding table
returns-in-69 c = rw c.of_r2i-in-69.ensures (leaf c.ranges.word 16 c.in-69.is tt)

pub returns-in-73 : goal.returns-in-73
unfolding table
returns-in-73 c = rw c.of_r2i-in-73.ensures (leaf c.ranges.word 16 c.in-73.is tt)

pub returns-in-77 : goal.returns-in-77
unfolding table
returns-in-77 c = rw c.of_r2i-in-77.ensures (leaf c.ranges.word 16 c.in-77.is tt)

pub returns-in_default : goal.returns-in_default
unfolding table
returns-in_default c = rest c.ranges.word 21 16 c.requires (search rules) tt
