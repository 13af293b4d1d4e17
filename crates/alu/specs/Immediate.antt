-- A register and an immediate: manual 2.2.1.2, 2.2.1.4, 2.2.1.6 and 2.2.1.9. An immediate is the field's own value, as the word has it.
use Rattle.std.specs.Prelude.{ℕ, ◌+◌, ◌*◌, ◌^◌}
use Rattle.std.specs.Int.Bits.{bit_and, bit_or, bit_xor}
use Rattle.word.specs.Word.{low, sext, add_d}
use Rattle.alu.specs.Alu.{add_w, slt, sltu}
use Rattle.alu.specs.declared.Immediate.{Immediate}
use Rattle.alu.specs.declared.Immediate.TheVariants.{AddiW, AddiD, Addu16iD, Slti, Sltui, Lu52iD, Andi, Ori, Xori}

-- ADDI.W: tmp = GR[rj][31:0] + SignExtend(si12, 32); GR[rd] = SignExtend(tmp[31:0], GRLEN)
abbrev pub addi_w : ℕ → ℕ → ℕ
addi_w rj si12 = add_w rj (sext 12 si12)

-- ADDI.D: tmp = GR[rj][63:0] + SignExtend(si12, 64); GR[rd] = tmp[63:0]
abbrev pub addi_d : ℕ → ℕ → ℕ
addi_d rj si12 = add_d rj (sext 12 si12)

-- ADDU16I.D: tmp = GR[rj][63:0] + SignExtend({si16, 16'b0}, 64); GR[rd] = tmp[63:0]
abbrev pub addu16i_d : ℕ → ℕ → ℕ
addu16i_d rj si16 = add_d rj (sext 32 (si16 * 2 ^ 16))

-- SLTI: tmp = SignExtend(si12, GRLEN); GR[rd] = (signed(GR[rj]) < signed(tmp)) ? 1 : 0
abbrev pub slti : ℕ → ℕ → ℕ
slti rj si12 = slt rj (sext 12 si12)

-- SLTUI: tmp = SignExtend(si12, GRLEN); GR[rd] = (unsigned(GR[rj]) < unsigned(tmp)) ? 1 : 0.
-- 01: "SLTUI sign-extends its immediate, then compares unsigned."
abbrev pub sltui : ℕ → ℕ → ℕ
sltui rj si12 = sltu rj (sext 12 si12)

-- LU52I.D: GR[rd] = {si12, GR[rj][51:0]}. 01: "LU52I.D takes bits 51:0 from rj and si12 above."
abbrev pub lu52i_d : ℕ → ℕ → ℕ
lu52i_d rj si12 = low 12 si12 * 2 ^ 52 + low 52 rj

-- ANDI: GR[rd] = GR[rj] & ZeroExtend(ui12, GRLEN). 01: "ANDI, ORI, XORI zero-extend."
abbrev pub andi : ℕ → ℕ → ℕ
andi rj ui12 = bit_and rj (low 12 ui12)

-- ORI: GR[rd] = GR[rj] | ZeroExtend(ui12, GRLEN)
abbrev pub ori : ℕ → ℕ → ℕ
ori rj ui12 = bit_or rj (low 12 ui12)

-- XORI: GR[rd] = GR[rj] ^ ZeroExtend(ui12, GRLEN)
abbrev pub xori : ℕ → ℕ → ℕ
xori rj ui12 = bit_xor rj (low 12 ui12)

-- the family, one row a mnemonic
unfoldable pub immediate_of : Immediate → ℕ → ℕ → ℕ
immediate_of AddiW = addi_w
immediate_of AddiD = addi_d
immediate_of Addu16iD = addu16i_d
immediate_of Slti = slti
immediate_of Sltui = sltui
immediate_of Lu52iD = lu52i_d
immediate_of Andi = andi
immediate_of Ori = ori
immediate_of Xori = xori
