-- Sums, comparisons and bitwise operations of two registers: manual 2.2.1.1, 2.2.1.5, 2.2.1.8 and 2.2.3.10.
-- Each definition stands under the manual's own lines, with the manual's operand names.
use Rattle.std.specs.Prelude.{ℕ, ◌+◌, ◌-◌, ◌^◌, cond, ltb, eqb, pos, ◌-ℤ◌}
use Rattle.std.specs.Int.Bits.{bit_and, bit_or, bit_xor}
use Rattle.word.specs.Word.{low, cut, sext, add_d, sub_d, less}
use Rattle.alu.specs.declared.Alu.{Alu}
use Rattle.alu.specs.declared.Alu.TheVariants.{AddW, AddD, SubW, SubD, Slt, Sltu, And, Or, Nor, Xor, Andn, Orn, Maskeqz, Masknez}

-- ADD.W: tmp = GR[rj][31:0] + GR[rk][31:0]; GR[rd] = SignExtend(tmp[31:0], GRLEN).
-- 01: "A .W result is 32 bits, sign-extended to 64."
abbrev pub add_w : ℕ → ℕ → ℕ
add_w rj rk = sext 32 (low 32 rj + low 32 rk)

-- SUB.W: tmp = GR[rj][31:0] - GR[rk][31:0]; GR[rd] = SignExtend(tmp[31:0], GRLEN)
abbrev pub sub_w : ℕ → ℕ → ℕ
sub_w rj rk = sext 32 (cut 32 (pos (low 32 rj) -ℤ pos (low 32 rk)))

-- SLT: GR[rd] = (signed(GR[rj]) < signed(GR[rk])) ? 1 : 0
abbrev pub slt : ℕ → ℕ → ℕ
slt rj rk = cond (less rj rk) 1 0

-- SLTU: GR[rd] = (unsigned(GR[rj]) < unsigned(GR[rk])) ? 1 : 0
abbrev pub sltu : ℕ → ℕ → ℕ
sltu rj rk = cond (ltb rj rk) 1 0

-- ~x: every one of the 64 bits the other way
abbrev pub inverse : ℕ → ℕ
inverse x = 2 ^ 64 - 1 - x

-- NOR: GR[rd] = ~(GR[rj] | GR[rk])
abbrev pub nor : ℕ → ℕ → ℕ
nor rj rk = inverse (bit_or rj rk)

-- ANDN: GR[rd] = GR[rj] & (~GR[rk])
abbrev pub andn : ℕ → ℕ → ℕ
andn rj rk = bit_and rj (inverse rk)

-- ORN: GR[rd] = GR[rj] | (~GR[rk])
abbrev pub orn : ℕ → ℕ → ℕ
orn rj rk = bit_or rj (inverse rk)

-- MASKEQZ: GR[rd] = (GR[rk] == 0) ? 0 : GR[rj]
abbrev pub maskeqz : ℕ → ℕ → ℕ
maskeqz rj rk = cond (eqb rk 0) 0 rj

-- MASKNEZ: GR[rd] = (GR[rk] != 0) ? 0 : GR[rj]
abbrev pub masknez : ℕ → ℕ → ℕ
masknez rj rk = cond (eqb rk 0) rj 0

-- the family, one row a mnemonic; AND, OR and XOR are the library's, digit by digit
unfoldable pub alu_of : Alu → ℕ → ℕ → ℕ
alu_of AddW = add_w
alu_of AddD = add_d
alu_of SubW = sub_w
alu_of SubD = sub_d
alu_of Slt = slt
alu_of Sltu = sltu
alu_of And = bit_and
alu_of Or = bit_or
alu_of Nor = nor
alu_of Xor = bit_xor
alu_of Andn = andn
alu_of Orn = orn
alu_of Maskeqz = maskeqz
alu_of Masknez = masknez
