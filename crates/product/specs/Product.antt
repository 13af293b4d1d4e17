-- Products of two registers: manual 2.2.1.11 and 2.2.1.12. Each definition stands under the manual's own lines.
use Rattle.std.specs.Prelude.{ℕ, ◌*◌, ◌/◌, ◌^◌, ℤ, ◌*ℤ◌}
use Rattle.std.specs.Int.Signed.{shr_z}
use Rattle.word.specs.Word.{low, cut, sext, signed}
use Rattle.product.specs.declared.Product.{Product}
use Rattle.product.specs.declared.Product.TheVariants.{MulW, MulD, MulhW, MulhWu, MulhD, MulhDu, MulwDW, MulwDWu}

-- z[2k-1:k] of a whole number z: the k bits above its low k bits
abbrev pub high : ℕ → ℤ → ℕ
high k z = cut k (shr_z z (2 ^ k))

-- product = signed(GR[rj][k-1:0]) * signed(GR[rk][k-1:0])
abbrev pub signed_product : ℕ → ℕ → ℕ → ℤ
signed_product k rj rk = signed k rj *ℤ signed k rk

-- MUL.W: product of the signed words; GR[rd] = SignExtend(product[31:0], GRLEN)
abbrev pub mul_w : ℕ → ℕ → ℕ
mul_w rj rk = sext 32 (cut 32 (signed_product 32 rj rk))

-- MULH.W: product of the signed words; GR[rd] = SignExtend(product[63:32], GRLEN).
-- 01: "For MULH.W and MULH.WU the 32 bits are bits 63:32 of the product."
abbrev pub mulh_w : ℕ → ℕ → ℕ
mulh_w rj rk = sext 32 (high 32 (signed_product 32 rj rk))

-- MULH.WU: product = unsigned(GR[rj][31:0]) * unsigned(GR[rk][31:0]); GR[rd] = SignExtend(product[63:32], GRLEN).
-- 01: "A .W result is 32 bits, sign-extended to 64; this holds for DIV.WU, MOD.WU and MULH.WU too."
abbrev pub mulh_wu : ℕ → ℕ → ℕ
mulh_wu rj rk = sext 32 (low 32 rj * low 32 rk / 2 ^ 32)

-- MUL.D: product of the signed registers; GR[rd] = product[63:0]
abbrev pub mul_d : ℕ → ℕ → ℕ
mul_d rj rk = cut 64 (signed_product 64 rj rk)

-- MULH.D: product of the signed registers; GR[rd] = product[127:64]
abbrev pub mulh_d : ℕ → ℕ → ℕ
mulh_d rj rk = high 64 (signed_product 64 rj rk)

-- MULH.DU: product = unsigned(GR[rj][63:0]) * unsigned(GR[rk][63:0]); GR[rd] = product[127:64]
abbrev pub mulh_du : ℕ → ℕ → ℕ
mulh_du rj rk = rj * rk / 2 ^ 64

-- MULW.D.W: product of the signed words; GR[rd] = product[63:0].
-- 01: "MULW.D.W and MULW.D.WU keep the whole 64-bit product."
abbrev pub mulw_d_w : ℕ → ℕ → ℕ
mulw_d_w rj rk = cut 64 (signed_product 32 rj rk)

-- MULW.D.WU: product = unsigned(GR[rj][31:0]) * unsigned(GR[rk][31:0]); GR[rd] = product[63:0]
abbrev pub mulw_d_wu : ℕ → ℕ → ℕ
mulw_d_wu rj rk = low 32 rj * low 32 rk

-- the family, one row a mnemonic
unfoldable pub product_of : Product → ℕ → ℕ → ℕ
product_of MulW = mul_w
product_of MulD = mul_d
product_of MulhW = mulh_w
product_of MulhWu = mulh_wu
product_of MulhD = mulh_d
product_of MulhDu = mulh_du
product_of MulwDW = mulw_d_w
product_of MulwDWu = mulw_d_wu
