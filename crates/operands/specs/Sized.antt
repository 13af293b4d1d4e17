-- The formats that differ in the size of one part alone. At its size each is, by computation, the format of that name.
use Rattle.std.specs.Prelude.{ℕ, ◌≡◌, refl, ◌-◌, Bool, true, [], ◌∷◌, leb}
use Rattle.isa.specs.Format.{Format, opcode, rd, rj, rk, imm, bits, values, r2i5, r2i6, r2i12, r2i14, r2i16, r3i2, r3i3, field_w, field_d}
use Rattle.isa.specs.Operands.{field_operands}
use Rattle.isa.specs.declared.FieldOperands.{FieldOperands}
use Rattle.parts.specs.Piece.{bits_from}

-- two registers, and an immediate of some bits: `r2i5` to `r2i16`
abbrev pub r2i : ℕ → Format
r2i size = record {
  pieces = record { part = opcode; low = 0; size = 22 - size } ∷ record { part = imm; low = 0; size = size } ∷ bits rj 4 0 ∷ bits rd 4 0 ∷ [];
  allows = λ x. true;
}

-- three registers, and an immediate of some bits: `r3i2` and `r3i3`
abbrev pub r3i : ℕ → Format
r3i size = record {
  pieces = record { part = opcode; low = 0; size = 17 - size } ∷ record { part = imm; low = 0; size = size } ∷ bits rk 4 0 ∷ bits rj 4 0 ∷ bits rd 4 0 ∷ [];
  allows = λ x. true;
}

-- the operands of a bit field whose ends have some bits each: `field_w` and `field_d`
abbrev pub field_at : ℕ → ℕ → FieldOperands
field_at size w = record { rd = bits_from 0 5 w; rj = bits_from 5 5 w; lsb = bits_from 10 size w; msb = bits_from 16 size w }

-- such a field exists: msb is not below lsb
abbrev pub field_allowed : ℕ → ℕ → Bool
field_allowed size w = leb (bits_from 10 size w) (bits_from 16 size w)

pub two_registers : (r2i 5 ≡ r2i5) × (r2i 6 ≡ r2i6) × (r2i 12 ≡ r2i12) × (r2i 14 ≡ r2i14) × (r2i 16 ≡ r2i16)
two_registers = (refl, refl, refl, refl, refl)

pub three_registers : (r3i 2 ≡ r3i2) × (r3i 3 ≡ r3i3)
three_registers = (refl, refl)

pub fields_of_words : (w : ℕ) → (field_at 5 w ≡ field_operands (values field_w w)) × (field_allowed 5 w ≡ field_w.allows (values field_w w))
fields_of_words w = (refl, refl)

pub fields_of_doubles : (w : ℕ) → (field_at 6 w ≡ field_operands (values field_d w)) × (field_allowed 6 w ≡ field_d.allows (values field_d w))
fields_of_doubles w = (refl, refl)
