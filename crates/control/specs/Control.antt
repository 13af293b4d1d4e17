-- Manual 2.2.4 (branches), the addresses of 2.2.5, 2.2.10 (ASRT and CPUCFG): what is tested, and where offsets lead.
use Rattle.std.specs.Prelude.{ℕ, ◌*◌, Bool, cond, not, eqb, ltb, leb}
use Rattle.word.specs.Word.{sext, less}
use Rattle.place.specs.declared.GuestAddr.{GuestAddr}
use Rattle.place.specs.Place.{plus_of}
use Rattle.isa.specs.declared.Branch.{Branch}
use Rattle.isa.specs.declared.Branch.TheVariants.{Beq, Bne, Blt, Bge, Bltu, Bgeu}
use Rattle.isa.specs.declared.ZeroBranch.{ZeroBranch}
use Rattle.isa.specs.declared.ZeroBranch.TheVariants.{Beqz, Bnez}
use Rattle.isa.specs.declared.Assert.{Assert}
use Rattle.isa.specs.declared.Assert.TheVariants.{AsrtleD, AsrtgtD}
use Rattle.isa.specs.declared.Config.{Config}
use Rattle.isa.specs.declared.Config.TheVariants.{Cpucfg}

-- 2.2.4.1: "if GR[rj] == GR[rd]", "!=", "signed(GR[rj]) < signed(GR[rd])", ">=", "unsigned(GR[rj]) < unsigned(GR[rd])", ">="
abbrev pub taken_of : Branch → ℕ → ℕ → Bool
taken_of Beq rj rd = eqb rj rd
taken_of Bne rj rd = not (eqb rj rd)
taken_of Blt rj rd = less rj rd
taken_of Bge rj rd = not (less rj rd)
taken_of Bltu rj rd = ltb rj rd
taken_of Bgeu rj rd = leb rd rj

-- 2.2.4.2: "if GR[rj] == 0", "!="
abbrev pub zero_taken_of : ZeroBranch → ℕ → Bool
zero_taken_of Beqz rj = eqb rj 0
zero_taken_of Bnez rj = not (eqb rj 0)

-- PC + SignExtend({offs, 2'b0}, GRLEN), where {offs, 2'b0} has k bits; so for JIRL and LDPTR, STPTR from GR[rj].
-- 01: "Branch offsets count words from the branch's own pc"; "LDPTR and STPTR offsets are si14 times 4."
abbrev pub words_on_of : GuestAddr → ℕ → ℕ → GuestAddr
words_on_of from offs k = plus_of from (sext k (offs * 4))

-- 2.2.5.1: vaddr = GR[rj] + SignExtend(si12, GRLEN)
abbrev pub bytes_on_of : GuestAddr → ℕ → GuestAddr
bytes_on_of from offs = plus_of from (sext 12 offs)

-- 01: "ASRTLE.D raises BCE when rj > rk, ASRTGT.D when rj <= rk, signed." It passes where it does not raise.
abbrev pub passes_of : Assert → ℕ → ℕ → Bool
passes_of AsrtleD rj rk = not (less rk rj)
passes_of AsrtgtD rj rk = less rk rj

-- 01: "CPUCFG: for word number 1 (all 64 bits of rj), 0x2F2F2 .. Every other number gives 0."
abbrev pub config_of : Config → ℕ → ℕ
config_of Cpucfg rj = cond (eqb rj 1) 0x2F2F2 0
