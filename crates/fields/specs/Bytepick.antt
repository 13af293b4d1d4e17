-- Bytes of two registers: manual 2.2.3.3.
use Rattle.std.specs.Prelude.{ℕ, ◌+◌, ◌-◌, ◌*◌, ◌/◌, ◌^◌}
use Rattle.word.specs.Word.{low, sext}
use Rattle.fields.specs.declared.Bytepick.{Bytepick}
use Rattle.fields.specs.declared.Bytepick.TheVariants.{BytepickW, BytepickD}

-- {GR[rk][n-8*sa-1:0], GR[rj][n-1:n-8*sa]}, of registers of n bits. 01: "BYTEPICK puts rk's lower bytes above rj's upper bytes: with
-- field n, the top n bytes of rj become the lowest n of the result."
abbrev pub bytepick : ℕ → ℕ → ℕ → ℕ → ℕ
bytepick n rj rk sa = low (n - 8 * sa) rk * 2 ^ (8 * sa) + low n rj / 2 ^ (n - 8 * sa)

-- BYTEPICK.W: of the words, sign-extended. 01: "The .W form does this on the low words."
abbrev pub bytepick_w : ℕ → ℕ → ℕ → ℕ
bytepick_w rj rk sa2 = sext 32 (bytepick 32 rj rk (low 2 sa2))

-- BYTEPICK.D: of the registers
abbrev pub bytepick_d : ℕ → ℕ → ℕ → ℕ
bytepick_d rj rk sa3 = bytepick 64 rj rk (low 3 sa3)

-- the family, one row a mnemonic
unfoldable pub bytepick_of : Bytepick → ℕ → ℕ → ℕ → ℕ
bytepick_of BytepickW = bytepick_w
bytepick_of BytepickD = bytepick_d
