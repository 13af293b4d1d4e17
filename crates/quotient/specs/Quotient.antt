-- Quotients and remainders of two registers: manual 2.2.1.13. Each definition stands under the manual's own lines.
use Rattle.std.specs.Prelude.{ℕ, cond, eqb, ℤ, pos, negsuc}
use Rattle.std.specs.Int.Signed.{quot_z, rem_z}
use Rattle.word.specs.Word.{low, cut, sext, signed}
use Rattle.quotient.specs.declared.Division.{Division}
use Rattle.quotient.specs.declared.Division.TheVariants.{DivW, ModW, DivWu, ModWu, DivD, ModD, DivDu, ModDu}

-- unsigned(x[k-1:0])
abbrev pub unsigned : ℕ → ℕ → ℤ
unsigned k x = pos (low k x)

-- x / y. 01: "Signed division rounds toward zero". "A zero divisor raises nothing; quotient and remainder are 0 (house)."
abbrev pub quotient : ℤ → ℤ → ℤ
quotient x (pos n) = cond (eqb n 0) (pos 0) (quot_z x (pos n))
quotient x (negsuc n) = quot_z x (negsuc n)

-- x % y. 01: "and the remainder has the dividend's sign"
abbrev pub remainder : ℤ → ℤ → ℤ
remainder x (pos n) = cond (eqb n 0) (pos 0) (rem_z x (pos n))
remainder x (negsuc n) = rem_z x (negsuc n)

-- 01: "The least number by -1 gives the least number, remainder 0 (house)." Of k bits, the least number is -(2 ^ (k - 1)). Its
-- quotient by -1 is 2 ^ (k - 1), which k bits do not hold: cut to k bits it is the least number again.
-- 01: "Word forms use the low 32 bits only (house)."

-- DIV.W: quotient = signed(GR[rj][31:0]) / signed(GR[rk][31:0]); GR[rd] = SignExtend(quotient[31:0], GRLEN)
abbrev pub div_w : ℕ → ℕ → ℕ
div_w rj rk = sext 32 (cut 32 (quotient (signed 32 rj) (signed 32 rk)))

-- MOD.W: remainder = signed(GR[rj][31:0]) % signed(GR[rk][31:0]); GR[rd] = SignExtend(remainder[31:0], GRLEN)
abbrev pub mod_w : ℕ → ℕ → ℕ
mod_w rj rk = sext 32 (cut 32 (remainder (signed 32 rj) (signed 32 rk)))

-- DIV.WU: quotient = unsigned(GR[rj][31:0]) / unsigned(GR[rk][31:0]); GR[rd] = SignExtend(quotient[31:0], GRLEN).
-- 01: "A .W result is 32 bits, sign-extended to 64; this holds for DIV.WU, MOD.WU and MULH.WU too."
abbrev pub div_wu : ℕ → ℕ → ℕ
div_wu rj rk = sext 32 (cut 32 (quotient (unsigned 32 rj) (unsigned 32 rk)))

-- MOD.WU: remainder = unsigned(GR[rj][31:0]) % unsigned(GR[rk][31:0]); GR[rd] = SignExtend(remainder[31:0], GRLEN)
abbrev pub mod_wu : ℕ → ℕ → ℕ
mod_wu rj rk = sext 32 (cut 32 (remainder (unsigned 32 rj) (unsigned 32 rk)))

-- DIV.D: GR[rd] = signed(GR[rj][63:0]) / signed(GR[rk][63:0])
abbrev pub div_d : ℕ → ℕ → ℕ
div_d rj rk = cut 64 (quotient (signed 64 rj) (signed 64 rk))

-- MOD.D: GR[rd] = signed(GR[rj][63:0]) % signed(GR[rk][63:0])
abbrev pub mod_d : ℕ → ℕ → ℕ
mod_d rj rk = cut 64 (remainder (signed 64 rj) (signed 64 rk))

-- DIV.DU: GR[rd] = unsigned(GR[rj][63:0]) / unsigned(GR[rk][63:0])
abbrev pub div_du : ℕ → ℕ → ℕ
div_du rj rk = cut 64 (quotient (unsigned 64 rj) (unsigned 64 rk))

-- MOD.DU: GR[rd] = unsigned(GR[rj][63:0]) % unsigned(GR[rk][63:0])
abbrev pub mod_du : ℕ → ℕ → ℕ
mod_du rj rk = cut 64 (remainder (unsigned 64 rj) (unsigned 64 rk))

-- the family, one row a mnemonic
unfoldable pub division_of : Division → ℕ → ℕ → ℕ
division_of DivW = div_w
division_of ModW = mod_w
division_of DivWu = div_wu
division_of ModWu = mod_wu
division_of DivD = div_d
division_of ModD = mod_d
division_of DivDu = div_du
division_of ModDu = mod_du
