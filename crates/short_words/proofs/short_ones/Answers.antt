-- `short_words::short_ones` meets its contract: a line for each arm that reads the table, and the last one by a law over it.
use Rattle.std.specs.Prelude.{Option}
use mathlib.Core.Path.{◌≡◌, sym, ap, ◌∙◌}
use mathlib.Core.Bool.{Bool, true, ◌&&◌}
use Prim.Native.Nat.{ℕ, ◌+◌, ◌*◌, ◌/◌, ◌%◌, ◌^◌, ◌<◌}
use lib.Dec.{eqb, lit<}
use mir.Syntax.{w32}
use mir.Val.{Fits}
use borrow.Author.Rules.{rules}
use Rattle.isa.specs.declared.Assert.{Assert}
use Rattle.isa.specs.declared.Assert.TheVariants.{AsrtleD, AsrtgtD}
use Rattle.opcode.specs.Decode.{decode_of}
use Rattle.opcode.specs.Families.{table}
use Rattle.opcode.proofs.Narrow.{narrow, rest, ends_zero}
use Rattle.short_words.specs.Found.{assertion}
use Rattle.isa.specs.declared.Instruction.{Instruction}
use Rattle.short_words.proofs.short_ones.Goals as goal

-- ASRT's arms: the low five bits decide. What they decide and what the table has are said apart, each over a plain word: together the
-- prover reads the whole table to find the term between the two.
abbrev decided : Assert → ℕ → ℕ → Option Instruction
decided op k w = assertion (eqb (w / 2 ^ 15 % 2 ^ 17 * 2 ^ 5 + (w / 2 ^ 0 % 2 ^ 5 * 2 ^ 0 + 0)) (k * 2 ^ 5) && true) op w

low-five : (op : Assert) (w : ℕ) {k : ℕ} → w / 2 ^ 15 ≡ k → k < 2 ^ 17 → assertion (eqb (w % 2 ^ 5) 0) op w ≡ decided op k w
low-five op w q l = ap (λ (b : Bool). assertion b op w) (sym (ends_zero w q l))

row-le : {w : ℕ} → Fits w32 w → w / 2 ^ 15 ≡ 2 → decided AsrtleD 2 w ≡ decode_of w
unfolding table
row-le f q = sym (narrow f 15 q)

row-gt : {w : ℕ} → Fits w32 w → w / 2 ^ 15 ≡ 3 → decided AsrtgtD 3 w ≡ decode_of w
unfolding table
row-gt f q = sym (narrow f 15 q)

less-or-equal : {w : ℕ} → Fits w32 w → w / 2 ^ 15 ≡ 2 → assertion (eqb (w % 2 ^ 5) 0) AsrtleD w ≡ decode_of w
less-or-equal {w} f q = low-five AsrtleD w q (lit< tt) ∙ row-le f q

greater : {w : ℕ} → Fits w32 w → w / 2 ^ 15 ≡ 3 → assertion (eqb (w % 2 ^ 5) 0) AsrtgtD w ≡ decode_of w
greater {w} f q = low-five AsrtgtD w q (lit< tt) ∙ row-gt f q

pub returns-in-2 : goal.returns-in-2
unfolding table
returns-in-2 c = c.assert.ensures ∙ less-or-equal c.ranges.word c.in-2.is

pub returns-in-3 : goal.returns-in-3
unfolding table
returns-in-3 c = c.assert-in-3.ensures ∙ greater c.ranges.word c.in-3.is

pub returns-in_default : goal.returns-in_default
unfolding table
returns-in_default c = rest c.ranges.word 18 15 c.requires (search rules) tt
