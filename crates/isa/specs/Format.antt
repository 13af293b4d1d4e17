-- Instruction formats: which bits of a word belong to whom. Manual 1.2, table 1; Appendix B for the formats that are not in it.
use Rattle.std.specs.Prelude.{ℕ, ◌+◌, ◌-◌, ◌*◌, ◌/◌, ◌%◌, ◌^◌, Bool, true, cond, List, [], ◌∷◌, eqb, leb}

-- what a word is made of: the opcode, three registers, an immediate, PRELD's hint, and the two ends of a bit field
pub data Part : Type 0 where
  opcode : Part
  rd : Part
  rj : Part
  rk : Part
  imm : Part
  hint : Part
  lsb : Part
  msb : Part

abbrev pub number : Part → ℕ
number opcode = 0
number rd = 1
number rj = 2
number rk = 3
number imm = 4
number hint = 5
number lsb = 6
number msb = 7

abbrev pub same : Part → Part → Bool
same p q = eqb (number p) (number q)

-- some bits of a part, from bit `low` up
pub record Piece : Type 0 where
  pub part : Part
  pub low : ℕ
  pub size : ℕ

-- the manual's I26[25:16] is `bits imm 25 16`
abbrev pub bits : Part → ℕ → ℕ → Piece
bits p high low = record { part = p; low = low; size = high + 1 - low }

-- how many bits some pieces fill
abbrev pub filled : List Piece → ℕ
filled [] = 0
filled (p ∷ ps) = p.size + filled ps

-- where a piece of a part lies: from bit `at` of the word, as the part's bits from `low` up
pub record Place : Type 0 where
  pub at : ℕ
  pub low : ℕ
  pub size : ℕ

-- the places of a part
abbrev pub places : Part → List Piece → List Place
places q [] = []
places q (p ∷ ps) = cond (same p.part q) (record { at = filled ps; low = p.low; size = p.size } ∷ places q ps) (places q ps)

-- the value that a word has at some places; none is 0
abbrev pub gather : List Place → ℕ → ℕ
gather [] w = 0
gather (s ∷ ss) w = w / 2 ^ s.at % 2 ^ s.size * 2 ^ s.low + gather ss w

-- the word whose parts have the values x
abbrev pub word_of : List Piece → (Part → ℕ) → ℕ
word_of [] x = 0
word_of (p ∷ ps) x = x p.part / 2 ^ p.low % 2 ^ p.size * 2 ^ (filled ps) + word_of ps x

-- a format: the pieces from bit 31 down, and which operands exist
pub record Format : Type 0 where
  pub pieces : List Piece
  pub allows : (Part → ℕ) → Bool

-- the value of every part in a word
abbrev pub values : Format → ℕ → Part → ℕ
values f w q = gather (places q f.pieces) w

-- how many bits some places have, and a part in a format
abbrev pub bits_at : List Place → ℕ
bits_at [] = 0
bits_at (s ∷ ss) = s.size + bits_at ss

abbrev pub width : Format → Part → ℕ
width f q = bits_at (places q f.pieces)

abbrev all : List Piece → Format
all ps = record { pieces = ps; allows = λ x. true }

-- 01: with msb below lsb the word does not exist
abbrev ordered : List Piece → Format
ordered ps = record { pieces = ps; allows = λ x. leb (x lsb) (x msb) }

-- 2R, 3R
abbrev pub r2 : Format
r2 = all (bits opcode 21 0 ∷ bits rj 4 0 ∷ bits rd 4 0 ∷ [])

abbrev pub r3 : Format
r3 = all (bits opcode 16 0 ∷ bits rk 4 0 ∷ bits rj 4 0 ∷ bits rd 4 0 ∷ [])

-- 3R with sa2 or sa3
abbrev pub r3i2 : Format
r3i2 = all (bits opcode 14 0 ∷ bits imm 1 0 ∷ bits rk 4 0 ∷ bits rj 4 0 ∷ bits rd 4 0 ∷ [])

abbrev pub r3i3 : Format
r3i3 = all (bits opcode 13 0 ∷ bits imm 2 0 ∷ bits rk 4 0 ∷ bits rj 4 0 ∷ bits rd 4 0 ∷ [])

-- 2R with ui5, ui6; 2RI12, 2RI14, 2RI16
abbrev pub r2i5 : Format
r2i5 = all (bits opcode 16 0 ∷ bits imm 4 0 ∷ bits rj 4 0 ∷ bits rd 4 0 ∷ [])

abbrev pub r2i6 : Format
r2i6 = all (bits opcode 15 0 ∷ bits imm 5 0 ∷ bits rj 4 0 ∷ bits rd 4 0 ∷ [])

abbrev pub r2i12 : Format
r2i12 = all (bits opcode 9 0 ∷ bits imm 11 0 ∷ bits rj 4 0 ∷ bits rd 4 0 ∷ [])

abbrev pub r2i14 : Format
r2i14 = all (bits opcode 7 0 ∷ bits imm 13 0 ∷ bits rj 4 0 ∷ bits rd 4 0 ∷ [])

abbrev pub r2i16 : Format
r2i16 = all (bits opcode 5 0 ∷ bits imm 15 0 ∷ bits rj 4 0 ∷ bits rd 4 0 ∷ [])

-- one register with si20, 1RI21, I26, and a code or hint of 15 bits
abbrev pub r1i20 : Format
r1i20 = all (bits opcode 6 0 ∷ bits imm 19 0 ∷ bits rd 4 0 ∷ [])

abbrev pub r1i21 : Format
r1i21 = all (bits opcode 5 0 ∷ bits imm 15 0 ∷ bits rj 4 0 ∷ bits imm 20 16 ∷ [])

abbrev pub i26 : Format
i26 = all (bits opcode 5 0 ∷ bits imm 15 0 ∷ bits imm 25 16 ∷ [])

abbrev pub i15 : Format
i15 = all (bits opcode 16 0 ∷ bits imm 14 0 ∷ [])

-- ASRT: bits 4:0 belong to the opcode, and are zero
abbrev pub asrt : Format
asrt = all (bits opcode 21 5 ∷ bits rk 4 0 ∷ bits rj 4 0 ∷ bits opcode 4 0 ∷ [])

-- a bit field of a word: bit 15 belongs to the opcode; and of a double word
abbrev pub field_w : Format
field_w = ordered (bits opcode 11 1 ∷ bits msb 4 0 ∷ bits opcode 0 0 ∷ bits lsb 4 0 ∷ bits rj 4 0 ∷ bits rd 4 0 ∷ [])

abbrev pub field_d : Format
field_d = ordered (bits opcode 9 0 ∷ bits msb 5 0 ∷ bits lsb 5 0 ∷ bits rj 4 0 ∷ bits rd 4 0 ∷ [])

-- PRELD, PRELDX: a hint in the place of rd
abbrev pub hint_i12 : Format
hint_i12 = all (bits opcode 9 0 ∷ bits imm 11 0 ∷ bits rj 4 0 ∷ bits hint 4 0 ∷ [])

abbrev pub hint_r2 : Format
hint_r2 = all (bits opcode 16 0 ∷ bits rk 4 0 ∷ bits rj 4 0 ∷ bits hint 4 0 ∷ [])
