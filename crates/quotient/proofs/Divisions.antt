-- Division at every width w that the machine has: what the division that wraps answers is the definition's, cut to the width.
use Rattle.std.proofs.Common.{◌≡◌, refl, sym, ap, ◌∙◌, arith, ℕ, zero, suc, ◌-◌, ◌/◌, ◌%◌, ◌^◌, ◌<◌, ◌≤◌, ℤ, pos, negsuc, to_z, of_z, Fits, mod-eq_of_lt, mod-lt, pow_pos}
use Rattle.std.specs.Int.{int_wrapping_div}
use mir.Syntax.{Width}
use mir.Val.{bits}
use native.Mathlib.Nat.{div-le_self, mod-le, lt_of_le_of_lt}
use lib.IntN.{neg_ℤ}
use lib.Signed.{mag, quot_z, rem_z}
use borrow.Author.Tests.{ne_eqb}
use mir.Facts.{of_z-to_z, sfits_to_z}
use Rattle.word.specs.Word.{cut, signed}
use Rattle.word.proofs.Signs.{back, signed_fits, of_z_cut, twice}
use Rattle.quotient.specs.Quotient.{quotient, remainder}

-- a divisor that is not 0
div_by : (x y : ℤ) → (y ≡ pos 0 → ⊥) → quotient x y ≡ quot_z x y
div_by x (pos n) k = rw (ne_eqb n 0 (λ e. k (ap pos e)))
div_by x (negsuc n) k = refl

mod_by : (x y : ℤ) → (y ≡ pos 0 → ⊥) → remainder x y ≡ rem_z x y
mod_by x (pos n) k = rw (ne_eqb n 0 (λ e. k (ap pos e)))
mod_by x (negsuc n) k = refl

mag_neg : (H r : ℕ) → r ≤ H → mag (neg_ℤ (pos r)) ≤ H
mag_neg H zero h = omega arith
mag_neg H (suc r) h = omega arith

-- a quotient is no larger than the dividend; only the least number by -1 has one that its own width does not hold
quot_mag : (x y : ℤ) → mag (quot_z x y) ≤ suc (mag x)
quot_mag (pos a) (pos b) = omega (arith, div-le_self a b)
quot_mag (pos a) (negsuc b) = mag_neg (suc a) (a / suc b) (omega (arith, div-le_self a (suc b)))
quot_mag (negsuc a) (pos b) = mag_neg (suc a) (suc a / b) (div-le_self (suc a) b)
quot_mag (negsuc a) (negsuc b) = div-le_self (suc a) (suc b)

-- the bits of a number that the unsigned type holds without its sign
bits_cut : (w : Width) (z : ℤ) → mag z < 2 ^ bits w → of_z w z ≡ cut (bits w) z
bits_cut w (pos n) h = sym (mod-eq_of_lt h)
bits_cut w (negsuc n) h = ap (λ (m : ℕ). 2 ^ bits w - suc m) (sym (mod-eq_of_lt h))

cut_below : (k : ℕ) (z : ℤ) → cut k z < 2 ^ k
cut_below k (pos n) = mod-lt n (pow_pos k)
cut_below k (negsuc n) = omega (arith, pow_pos k)

-- signed numbers of the width w
module _ (w : Width) (rj rk : ℕ) {a b : ℤ} (first : a ≡ signed (bits w) rj) (second : b ≡ signed (bits w) rk) where
  pub by_zero : of_z w b ≡ 0 → to_z w 0 ≡ pos 0 → signed (bits w) rk ≡ pos 0
  by_zero h none = sym (back second (signed_fits w rk)) ∙ ap (to_z w) h ∙ none

  module _ (not_zero : of_z w b ≡ 0 → ⊥) where
    other : signed (bits w) rk ≡ pos 0 → ⊥
    other e = not_zero (ap (of_z w) (second ∙ e))

    pub quotient_bits : {q : ℤ} → q ≡ int_wrapping_div w (to_z w (of_z w a)) (to_z w (of_z w b))
        → cut (bits w) q ≡ cut (bits w) (quotient (signed (bits w) rj) (signed (bits w) rk))
    quotient_bits e =
        let x = signed (bits w) rj in
        let y = signed (bits w) rk in
        let small : mag (quot_z x y) < 2 ^ bits w = omega (arith, quot_mag x y, (signed_fits w rj).sfits, twice w) in
        let bits_of : of_z w (quot_z x y) ≡ cut (bits w) (quot_z x y) = bits_cut w (quot_z x y) small in
        let fits : Fits w (of_z w (quot_z x y)) = record { fits = rw bits_of (cut_below (bits w) (quot_z x y)) } in
        ap (cut (bits w)) (e ∙ (λ i. to_z w (of_z w (quot_z (back first (signed_fits w rj) i) (back second (signed_fits w rk) i)))))
        ∙ sym (of_z_cut w (to_z w (of_z w (quot_z x y))) (sfits_to_z fits)) ∙ of_z-to_z fits ∙ bits_of
        ∙ ap (cut (bits w)) (sym (div_by x y other))

    pub remainder_bits : {r : ℤ} → r ≡ rem_z (to_z w (of_z w a)) (to_z w (of_z w b))
        → cut (bits w) r ≡ cut (bits w) (remainder (signed (bits w) rj) (signed (bits w) rk))
    remainder_bits e =
        ap (cut (bits w)) (e ∙ (λ i. rem_z (back first (signed_fits w rj) i) (back second (signed_fits w rk) i)) ∙ sym (mod_by (signed (bits w) rj) (signed (bits w) rk) other))

-- numbers of k bits without a sign
pub plain_quotient : (k a b : ℕ) → a < 2 ^ k → (b ≡ 0 → ⊥) → cut k (quotient (pos a) (pos b)) ≡ a / b
plain_quotient k a b h n = rw (ne_eqb b 0 n) (mod-eq_of_lt (lt_of_le_of_lt (div-le_self a b) h))

pub plain_remainder : (k a b : ℕ) → a < 2 ^ k → (b ≡ 0 → ⊥) → cut k (remainder (pos a) (pos b)) ≡ a % b
plain_remainder k a b h n = rw (ne_eqb b 0 n) (mod-eq_of_lt (lt_of_le_of_lt (mod-le a b) h))
