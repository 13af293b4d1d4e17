-- `arithmetic::zeros` meets its contract: a line for each arm that reads the table, and the last one by a law over it.
use mathlib.Core.Path.{◌∙◌}
use borrow.Author.Rules.{rules}
use Rattle.opcode.specs.Families.{table}
use Rattle.opcode.proofs.Narrow.{leaf, rest}
use Rattle.arithmetic.proofs.zeros.Goals as goal

pub returns-in-10 : goal.returns-in-10
unfolding table
returns-in-10 c = rw c.of_r2i.ensures (leaf c.ranges.word 22 c.in-10.is tt)

pub returns-in-11 : goal.returns-in-11
unfolding table
returns-in-11 c = rw c.of_r2i-in-11.ensures (leaf c.ranges.word 22 c.in-11.is tt)

pub returns-in-8 : goal.returns-in-8
unfolding table
returns-in-8 c = rw c.of_r2i-in-8.ensures (leaf c.ranges.word 22 c.in-8.is tt)

pub returns-in-9 : goal.returns-in-9
unfolding table
returns-in-9 c = rw c.of_r2i-in-9.ensures (leaf c.ranges.word 22 c.in-9.is tt)

pub returns-in-12 : goal.returns-in-12
unfolding table
returns-in-12 c = rw c.of_r2i-in-12.ensures (leaf c.ranges.word 22 c.in-12.is tt)

pub returns-in-13 : goal.returns-in-13
unfolding table
returns-in-13 c = rw c.of_r2i-in-13.ensures (leaf c.ranges.word 22 c.in-13.is tt)

pub returns-in-14 : goal.returns-in-14
unfolding table
returns-in-14 c = rw c.of_r2i-in-14.ensures (leaf c.ranges.word 22 c.in-14.is tt)

pub returns-in-15 : goal.returns-in-15
unfolding table
returns-in-15 c = rw c.of_r2i-in-15.ensures (leaf c.ranges.word 22 c.in-15.is tt)

pub returns-in-2 : goal.returns-in-2
unfolding table
returns-in-2 c = c.bit_field.ensures ∙ leaf c.ranges.word 22 c.in-2.is tt

pub returns-in-3 : goal.returns-in-3
unfolding table
returns-in-3 c = c.bit_field-in-3.ensures ∙ leaf c.ranges.word 22 c.in-3.is tt

pub returns-in_default : goal.returns-in_default
unfolding table
returns-in_default c = rest c.ranges.word 26 22 c.requires (search rules) tt
