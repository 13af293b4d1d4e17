-- `short_immediates::word_fields` meets its contract: the first bits and bit 15 are all of the opcode.
use Rattle.std.specs.Prelude.{Option, Some, None}
use mathlib.Core.Path.{◌≡◌, sym, ◌∙◌}
use mathlib.Core.Bool.{cond, ◌&&◌}
use Prim.Native.Nat.{ℕ, ◌+◌, ◌*◌, ◌/◌, ◌%◌, ◌^◌}
use lib.Dec.{eqb}
use mir.Syntax.{w32}
use mir.Val.{Fits}
use Rattle.fields.specs.declared.Field.{Field}
use Rattle.fields.specs.declared.Field.TheVariants.{BstrinsW, BstrpickW}
use Rattle.isa.specs.Format.{values, field_w}
use Rattle.isa.specs.Operands.{field_operands}
use Rattle.isa.specs.declared.Instruction.TheVariants as instruction
use Rattle.opcode.specs.Decode.{decode_of}
use Rattle.opcode.specs.Families.{table}
use Rattle.opcode.proofs.Narrow.{narrow, last_bit}
use Rattle.isa.specs.declared.Instruction.{Instruction}
use Rattle.short_immediates.specs.Found.{bit_field}
use Rattle.short_immediates.proofs.word_fields.Goals as goal

-- the two rows that are left, by the first eleven bits and bit 15 of a word. Said over a plain word: the prover reads the table here once
abbrev rows : ℕ → ℕ → ℕ → Option Instruction
rows w a b = row 6 BstrinsW (row 7 BstrpickW None)
  where
    row : ℕ → Field → Option Instruction → Option Instruction
    row k op d = cond (eqb (a % 2 ^ 11 * 2 ^ 1 + (b * 2 ^ 0 + 0)) k && field_w.allows (values field_w w)) (Some (instruction.Field op (field_operands (values field_w w)))) d

by_rows : {w : ℕ} → Fits w32 w → w / 2 ^ 21 ≡ 3 → decode_of w ≡ rows w (w / 2 ^ 21) (w / 2 ^ 15 % 2)
unfolding table
by_rows f p = narrow f 21 p

insert : {w : ℕ} → Fits w32 w → w / 2 ^ 21 ≡ 3 → w / 2 ^ 15 % 2 ≡ 0 → bit_field 5 BstrinsW w ≡ decode_of w
insert {w} f p q = sym (by_rows f p ∙ (λ i. rows w (p i) (q i)))

pick : {w : ℕ} → Fits w32 w → w / 2 ^ 21 ≡ 3 → w / 2 ^ 15 % 2 ≡ 1 → bit_field 5 BstrpickW w ≡ decode_of w
pick {w} f p q = sym (by_rows f p ∙ (λ i. rows w (p i) (q i)))

pub returns-then-word-eq0 : goal.returns-then-word-eq0
returns-then-word-eq0 c = c.bit_field.ensures ∙ insert c.ranges.word c.requires c.if-word-eq0.true

pub returns-else-word-eq0 : goal.returns-else-word-eq0
returns-else-word-eq0 c =
    c.bit_field-else-word-eq0.ensures
    ∙ pick c.ranges.word c.requires (last_bit _ (λ z. absurd (c.if-word-eq0.false z)) (λ o. o))
