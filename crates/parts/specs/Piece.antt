-- What a word has at one place, and at the two places of an offset. The parts of each format are such values.
use Rattle.std.specs.Prelude.{ℕ, ◌≡◌, refl, [], ◌∷◌}
use Rattle.isa.specs.Format.{rd, rj, rk, imm, lsb, msb, gather, values, r3, r3i2, r3i3, r2i5, r2i6, r2i12, r2i14, r2i16, r1i20, r1i21, i26, i15, field_w, field_d}

-- `size` bits from bit `at` up
abbrev pub bits_from : ℕ → ℕ → ℕ → ℕ
bits_from at size w = gather (record { at = at; low = 0; size = size } ∷ []) w

-- bits 25:10, and above them `upper` bits from bit 0 up
abbrev pub offset_with : ℕ → ℕ → ℕ
offset_with upper w = gather (record { at = 10; low = 0; size = 16 } ∷ record { at = 0; low = 16; size = upper } ∷ []) w

-- the manual's parts are these, by computation. Registers, and what stands in a register's place:
pub the_registers : (w : ℕ) → (values r3 w rd ≡ bits_from 0 5 w) × (values r3 w rj ≡ bits_from 5 5 w) × (values r3 w rk ≡ bits_from 10 5 w) × (values field_w w lsb ≡ bits_from 10 5 w)
the_registers w = (refl, refl, refl, refl)

-- immediates in one piece
pub the_immediates : (w : ℕ)
    → (values r3i2 w imm ≡ bits_from 15 2 w) × (values r3i3 w imm ≡ bits_from 15 3 w) × (values r2i5 w imm ≡ bits_from 10 5 w) × (values r2i6 w imm ≡ bits_from 10 6 w)
    × (values r2i12 w imm ≡ bits_from 10 12 w) × (values r2i14 w imm ≡ bits_from 10 14 w) × (values r2i16 w imm ≡ bits_from 10 16 w) × (values r1i20 w imm ≡ bits_from 5 20 w)
    × (values i15 w imm ≡ bits_from 0 15 w)
the_immediates w = (refl, refl, refl, refl, refl, refl, refl, refl, refl)

-- offsets in two pieces
pub the_offsets : (w : ℕ) → (values r1i21 w imm ≡ offset_with 5 w) × (values i26 w imm ≡ offset_with 10 w)
the_offsets w = (refl, refl)

-- the ends of a bit field
pub the_ends : (w : ℕ) → (values field_d w lsb ≡ bits_from 10 6 w) × (values field_w w msb ≡ bits_from 16 5 w) × (values field_d w msb ≡ bits_from 16 6 w)
the_ends w = (refl, refl, refl)
