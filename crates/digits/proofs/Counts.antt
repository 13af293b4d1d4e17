-- Runs of equal bits, at every width n: what the manual's loops count is what the machine's counts of zeros give. Assumes nothing.
use mathlib.Core.Path.{◌≡◌, refl, sym, ap, ◌∙◌}
use mathlib.Core.Bool.{Bool, true, false, cond}
use Prim.Native.Nat.{ℕ, zero, suc, ◌+◌, ◌-◌, ◌*◌, ◌/◌, ◌%◌, ◌^◌, ◌<◌, ◌≤◌}
use native.Mathlib.Omega.{arith}
use native.Mathlib.Nat.{mod-lt, pow-suc}
use native.Mathlib.Numerals.{add-one}
use lib.Count.{count_leading_zeros, count_trailing_zeros, under, leading_unique, leading_length}
use lib.Dec.{eqb}
use lib.Pow.{pow_pos, mod-pow-add, mod-mod-pow, field}
use borrow.Author.Tests.{eqb-true, eqb-false}
use Rattle.word.specs.Word.{low}
use Rattle.digits.specs.Count.{bit, leading, trailing}

-- one bit more on top: not set, or set
up : (n y : ℕ) → y < 2 ^ n → count_leading_zeros (suc n) y ≡ suc (count_leading_zeros n y)
up n y h =
    let l = leading_length n y h in
    sym (leading_unique (suc n) y (suc (count_leading_zeros n y)) l.0 (omega (arith, l.1)) l.2 l.3)

top : (n y : ℕ) → 2 ^ n ≤ y → y < 2 ^ suc n → count_leading_zeros (suc n) y ≡ 0
top n y h k = sym (leading_unique (suc n) y 0 (suc n) (omega arith) k (omega (arith, pow-suc 2 n)))

-- the low n + 1 bits are bit n and the low n
parts : (n x : ℕ) → low (suc n) x ≡ bit x n * 2 ^ n + low n x
parts n x = ap (λ (m : ℕ). x % 2 ^ m) (one_more n) ∙ mod-pow-add x 1 n
  where
    one_more : (n : ℕ) → suc n ≡ 1 + n
    one_more n = omega arith

is_bit : (x n : ℕ) → bit x n < 2
is_bit x n = mod-lt (x / 2 ^ n) (omega arith)

-- a bit that is not one of the two is the other
other_0 : (b : ℕ) → b < 2 → (b ≡ 0 → ⊥) → b ≡ 1
other_0 zero h k = absurd (k refl)
other_0 (suc b) h k = omega arith

other_1 : (b : ℕ) → b < 2 → (b ≡ 1 → ⊥) → b ≡ 0
other_1 zero h k = refl
other_1 (suc b) h k = absurd (k (omega arith))

-- A run of bits d from the top of x is counted as zeros on top of y, where y n, a number of n bits, stays as it is for each bit d,
-- and gets its top bit at the first other bit.
module _ (d x : ℕ) (y : ℕ → ℕ) (lt : (n : ℕ) → y n < 2 ^ n) (same : (n : ℕ) → bit x n ≡ d → y (suc n) ≡ y n) (set : (n : ℕ) → (bit x n ≡ d → ⊥) → 2 ^ n ≤ y (suc n)) where
  from_top : (n : ℕ) → leading d n x ≡ count_leading_zeros n (y n)
  unfolding leading count_leading_zeros
  from_top zero = refl
  from_top (suc n) = by (eqb (bit x n) d) refl (from_top n)
    where
      by : (t : Bool) → eqb (bit x n) d ≡ t → leading d n x ≡ count_leading_zeros n (y n) → cond t (suc (leading d n x)) 0 ≡ count_leading_zeros (suc n) (y (suc n))
      by true e ih = ap suc ih ∙ sym (up n (y n) (lt n)) ∙ ap (count_leading_zeros (suc n)) (sym (same n (eqb-true _ _ e)))
      by false e ih = sym (top n (y (suc n)) (set n (eqb-false _ _ e)) (lt (suc n)))

pub leading_0 : (n x : ℕ) → leading 0 n x ≡ count_leading_zeros n (low n x)
leading_0 n x =
    from_top 0 x (λ n. low n x) (λ n. mod-lt x (pow_pos n))
    (λ n e. let p = parts n x ∙ ap (λ (b : ℕ). b * 2 ^ n + low n x) e in omega arith)
    (λ n k. let p = parts n x ∙ ap (λ (b : ℕ). b * 2 ^ n + low n x) (other_0 (bit x n) (is_bit x n) k) in omega arith)
    n

pub leading_1 : (n x : ℕ) → leading 1 n x ≡ count_leading_zeros n (2 ^ n - 1 - low n x)
leading_1 n x =
    from_top 1 x (λ n. 2 ^ n - 1 - low n x) (λ n. let p = pow_pos n in omega arith)
    (λ n e. let p = parts n x ∙ ap (λ (b : ℕ). b * 2 ^ n + low n x) e in omega (arith, pow-suc 2 n))
    (λ n k. let p = parts n x ∙ ap (λ (b : ℕ). b * 2 ^ n + low n x) (other_1 (bit x n) (is_bit x n) k) in omega (arith, pow-suc 2 n, mod-lt x (pow_pos n)))
    n

-- The same from the bottom: y n x, which loses its lowest bit as x does, has a 0 for each bit d there and a 1 for each other.
module _ (d : ℕ) (y : ℕ → ℕ → ℕ) (rest : (n x : ℕ) → y (suc n) x / 2 ≡ y n (x / 2)) (same : (n x : ℕ) → x % 2 ≡ d → y (suc n) x % 2 ≡ 0) (set : (n x : ℕ) → (x % 2 ≡ d → ⊥) → y (suc n) x % 2 ≡ 1) where
  from_bottom : (n x : ℕ) → trailing d n x ≡ count_trailing_zeros n (y n x)
  unfolding trailing count_trailing_zeros
  from_bottom zero x = refl
  from_bottom (suc n) x = by (eqb (x % 2) d) refl (from_bottom n (x / 2))
    where
      by : (t : Bool) → eqb (x % 2) d ≡ t → trailing d n (x / 2) ≡ count_trailing_zeros n (y n (x / 2)) → cond t (suc (trailing d n (x / 2))) 0 ≡ under (y (suc n) x % 2) (count_trailing_zeros n (y (suc n) x / 2))
      by true e ih = rw (same n x (eqb-true _ _ e), rest n x) (ap suc ih)
      by false e ih = rw (set n x (eqb-false _ _ e)) refl

-- the low n + 1 bits: bit 0, and the low n of what is above it
low_rest : (n x : ℕ) → low (suc n) x / 2 ≡ low n (x / 2)
low_rest n x = ap (λ (m : ℕ). x % 2 ^ m / 2) (sym (add-one n)) ∙ field x n 1

low_bit : (n x : ℕ) → low (suc n) x % 2 ≡ x % 2
low_bit n x = ap (λ (m : ℕ). x % 2 ^ m % 2) (sym (add-one n)) ∙ mod-mod-pow x n 1

pub trailing_0 : (n x : ℕ) → trailing 0 n x ≡ count_trailing_zeros n (low n x)
trailing_0 =
    from_bottom 0 (λ n x. low n x) low_rest (λ n x e. low_bit n x ∙ e)
    (λ n x k. low_bit n x ∙ other_0 (x % 2) (omega arith) k)

pub trailing_1 : (n x : ℕ) → trailing 1 n x ≡ count_trailing_zeros n (2 ^ n - 1 - low n x)
trailing_1 =
    from_bottom 1 (λ n x. 2 ^ n - 1 - low n x)
    (λ n x. omega (arith, pow-suc 2 n, low_rest n x, mod-lt x (pow_pos (suc n))))
    (λ n x e. omega (arith, pow-suc 2 n, low_bit n x, mod-lt x (pow_pos (suc n))))
    (λ n x k. omega (arith, pow-suc 2 n, low_bit n x, other_1 (x % 2) (omega arith) k, mod-lt x (pow_pos (suc n))))

pub ruleset runs = (leading_0, leading_1, trailing_0, trailing_1)
