-- A 20-bit immediate put high, alone or on top of rd or pc: manual 2.2.1.4 and 2.2.1.7. `si20` is the field's own value.
use Rattle.std.specs.Prelude.{ℕ, ◌+◌, ◌*◌, ◌/◌, ◌^◌}
use Rattle.word.specs.Word.{low, sext, add_d}
use Rattle.alu.specs.declared.Upper.{Upper}
use Rattle.alu.specs.declared.Upper.TheVariants.{Lu12iW, Lu32iD, Pcaddi, Pcaddu12i, Pcaddu18i, Pcalau12i}

-- LU12I.W: GR[rd] = SignExtend({si20, 12'b0}, GRLEN)
abbrev pub lu12i_w : ℕ → ℕ
lu12i_w si20 = sext 32 (si20 * 2 ^ 12)

-- LU32I.D: GR[rd] = {SignExtend(si20, 32), GR[rd][31:0]}.
-- 01: "LU32I.D keeps rd's low 32 bits and puts the sign-extended si20 above."
abbrev pub lu32i_d : ℕ → ℕ → ℕ
lu32i_d rd si20 = low 32 (sext 20 si20) * 2 ^ 32 + low 32 rd

-- PCADDI: GR[rd] = PC + SignExtend({si20, 2'b0}, GRLEN)
abbrev pub pcaddi : ℕ → ℕ → ℕ
pcaddi pc si20 = add_d pc (sext 22 (si20 * 2 ^ 2))

-- PCADDU12I: GR[rd] = PC + SignExtend({si20, 12'b0}, GRLEN)
abbrev pub pcaddu12i : ℕ → ℕ → ℕ
pcaddu12i pc si20 = add_d pc (sext 32 (si20 * 2 ^ 12))

-- PCADDU18I: GR[rd] = PC + SignExtend({si20, 18'b0}, GRLEN)
abbrev pub pcaddu18i : ℕ → ℕ → ℕ
pcaddu18i pc si20 = add_d pc (sext 38 (si20 * 2 ^ 18))

-- PCALAU12I: tmp = PC + SignExtend({si20, 12'b0}, GRLEN); GR[rd] = {tmp[GRLEN-1:12], 12'b0}.
-- 01: "PCALAU12I clears the low 12 bits of its sum."
abbrev pub pcalau12i : ℕ → ℕ → ℕ
pcalau12i pc si20 = add_d pc (sext 32 (si20 * 2 ^ 12)) / 2 ^ 12 * 2 ^ 12

-- the family, one row a mnemonic: rd as it was, the instruction's own pc, and the immediate
unfoldable pub upper_of : Upper → ℕ → ℕ → ℕ → ℕ
upper_of Lu12iW rd pc si20 = lu12i_w si20
upper_of Lu32iD rd pc si20 = lu32i_d rd si20
upper_of Pcaddi rd pc si20 = pcaddi pc si20
upper_of Pcaddu12i rd pc si20 = pcaddu12i pc si20
upper_of Pcaddu18i rd pc si20 = pcaddu18i pc si20
upper_of Pcalau12i rd pc si20 = pcalau12i pc si20
