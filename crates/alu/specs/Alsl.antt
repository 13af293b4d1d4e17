-- A shift and a sum: manual 2.2.1.3. 01: "ALSL shifts rj by its two-bit field plus 1, then adds rk."
use Rattle.std.specs.Prelude.{ℕ, ◌+◌, ◌*◌, ◌^◌}
use Rattle.word.specs.Word.{low, sext}
use Rattle.alu.specs.declared.Alsl.{Alsl}
use Rattle.alu.specs.declared.Alsl.TheVariants.{AlslW, AlslWu, AlslD}

-- x << (sa2+1), where sa2 is a field of two bits
abbrev pub shifted : ℕ → ℕ → ℕ
shifted x sa2 = x * 2 ^ (low 2 sa2 + 1)

-- ALSL.W: tmp = (GR[rj][31:0] << (sa2+1)) + GR[rk][31:0]; GR[rd] = SignExtend(tmp[31:0], GRLEN)
abbrev pub alsl_w : ℕ → ℕ → ℕ → ℕ
alsl_w rj rk sa2 = sext 32 (shifted (low 32 rj) sa2 + low 32 rk)

-- ALSL.WU: the same tmp; GR[rd] = ZeroExtend(tmp[31:0], GRLEN). 01: "ALSL.WU zero-extends."
abbrev pub alsl_wu : ℕ → ℕ → ℕ → ℕ
alsl_wu rj rk sa2 = low 32 (shifted (low 32 rj) sa2 + low 32 rk)

-- ALSL.D: tmp = (GR[rj][63:0] << (sa2+1)) + GR[rk][63:0]; GR[rd] = tmp[63:0]
abbrev pub alsl_d : ℕ → ℕ → ℕ → ℕ
alsl_d rj rk sa2 = low 64 (shifted rj sa2 + rk)

-- the family, one row a mnemonic
unfoldable pub alsl_of : Alsl → ℕ → ℕ → ℕ → ℕ
alsl_of AlslW = alsl_w
alsl_of AlslWu = alsl_wu
alsl_of AlslD = alsl_d
