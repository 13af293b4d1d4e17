-- How large signed products are, and their high halves.
use Rattle.std.proofs.Common.{arith, ℕ, zero, suc, ◌*◌, ◌^◌, ◌<◌, ◌≤◌, ℤ, pos, negsuc, ◌*ℤ◌, SFits, w64}
use native.Mathlib.Nat.{mul-le-mul}
use lib.IntN.{neg_ℤ}
use lib.Signed.{mag, shr_z}
use mir.Syntax.{w128}
use Rattle.word.specs.Word.{signed}
use Rattle.word.proofs.Signs.{signed_fits}
use Rattle.product.specs.Product.{signed_product}

mag_neg : (r s : ℕ) → r ≤ s → mag (neg_ℤ (pos r)) ≤ s
mag_neg zero s h = omega arith
mag_neg (suc r) s h = omega arith

-- of two numbers whose size is bounded
product_mag : (s : ℕ) (x y : ℤ) → mag x < s → mag y < s → mag (x *ℤ y) ≤ s * s
product_mag s (pos a) (pos b) h k = mul-le-mul {n₁ = a} {m₁ = b} {n₂ = s} {m₂ = s} (omega arith) (omega arith)
product_mag s (pos a) (negsuc b) h k = mag_neg (a * suc b) (s * s) (mul-le-mul {n₁ = a} {m₁ = suc b} {n₂ = s} {m₂ = s} (omega arith) k)
product_mag s (negsuc a) (pos b) h k = mag_neg (suc a * b) (s * s) (mul-le-mul {n₁ = suc a} {m₁ = b} {n₂ = s} {m₂ = s} h (omega arith))
product_mag s (negsuc a) (negsuc b) h k = mul-le-mul {n₁ = suc a} {m₁ = suc b} {n₂ = s} {m₂ = s} h k

-- of two registers
registers_mag : (a b : ℕ) → mag (signed_product 64 a b) ≤ 2 ^ 126
registers_mag a b = product_mag (2 ^ 63) (signed 64 a) (signed 64 b) (signed_fits w64 a).sfits (signed_fits w64 b).sfits

pub registers_fit : (a b : ℕ) → SFits w128 (signed_product 64 a b)
registers_fit a b = record { sfits = omega (arith, registers_mag a b) }

mag_high_half : (z : ℤ) → mag z ≤ 2 ^ 126 → mag (shr_z z (2 ^ 64)) < 2 ^ 63
mag_high_half (pos n) h = omega arith
mag_high_half (negsuc n) h = omega arith

pub high_half_fits : (a b : ℕ) → SFits w64 (shr_z (signed_product 64 a b) (2 ^ 64))
high_half_fits a b = record { sfits = mag_high_half (signed_product 64 a b) (registers_mag a b) }
