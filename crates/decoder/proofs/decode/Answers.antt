-- `decoder::decode` meets its contract: a line for each arm that reads the table, and the last one by a law over it.
use mathlib.Core.Path.{◌∙◌}
use borrow.Author.Rules.{rules}
use Rattle.opcode.specs.Families.{table}
use Rattle.opcode.proofs.Narrow.{leaf, rest, bit, zero_high}
use Rattle.decoder.proofs.decode.Goals as goal

pub returns-in-4 : goal.returns-in-4
unfolding table
returns-in-4 c = rw c.of_r2i.ensures (leaf c.ranges.word 26 c.in-4.is tt)

pub returns-in-5 : goal.returns-in-5
unfolding table
returns-in-5 c = c.uppers.ensures ∙ bit c.ranges.word 25 c.in-5.is tt tt

pub returns-in-6 : goal.returns-in-6
unfolding table
returns-in-6 c = c.uppers-in-6.ensures ∙ bit c.ranges.word 25 c.in-6.is tt tt

pub returns-in-7 : goal.returns-in-7
unfolding table
returns-in-7 c = c.uppers-in-7.ensures ∙ bit c.ranges.word 25 c.in-7.is tt tt

pub returns-in-22 : goal.returns-in-22
unfolding table
returns-in-22 c = rw c.of_r2i-in-22.ensures (leaf c.ranges.word 26 c.in-22.is tt)

pub returns-in-23 : goal.returns-in-23
unfolding table
returns-in-23 c = rw c.of_r2i-in-23.ensures (leaf c.ranges.word 26 c.in-23.is tt)

pub returns-in-24 : goal.returns-in-24
unfolding table
returns-in-24 c = rw c.of_r2i-in-24.ensures (leaf c.ranges.word 26 c.in-24.is tt)

pub returns-in-25 : goal.returns-in-25
unfolding table
returns-in-25 c = rw c.of_r2i-in-25.ensures (leaf c.ranges.word 26 c.in-25.is tt)

pub returns-in-26 : goal.returns-in-26
unfolding table
returns-in-26 c = rw c.of_r2i-in-26.ensures (leaf c.ranges.word 26 c.in-26.is tt)

pub returns-in-27 : goal.returns-in-27
unfolding table
returns-in-27 c = rw c.of_r2i-in-27.ensures (leaf c.ranges.word 26 c.in-27.is tt)

pub returns-in-16 : goal.returns-in-16
unfolding table
returns-in-16 c = rw c.of_r1i21.ensures (leaf c.ranges.word 26 c.in-16.is tt)

pub returns-in-17 : goal.returns-in-17
unfolding table
returns-in-17 c = rw c.of_r1i21-in-17.ensures (leaf c.ranges.word 26 c.in-17.is tt)

pub returns-in-20 : goal.returns-in-20
unfolding table
returns-in-20 c = rw c.of_i26.ensures (leaf c.ranges.word 26 c.in-20.is tt)

pub returns-in-21 : goal.returns-in-21
unfolding table
returns-in-21 c = rw c.of_i26-in-21.ensures (leaf c.ranges.word 26 c.in-21.is tt)

pub returns-in-19 : goal.returns-in-19
unfolding table
returns-in-19 c = rw c.of_r2i-in-19.ensures (leaf c.ranges.word 26 c.in-19.is tt)

pub returns-in_default : goal.returns-in_default
unfolding table
returns-in_default c = rest c.ranges.word 32 26 (zero_high c.ranges.word) (search rules) tt
