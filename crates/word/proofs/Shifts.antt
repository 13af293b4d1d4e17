-- Low digits at every width: what a shift keeps of them (the low j of n = j + k), and that a product's come from its factors'. Assumes nothing.
use Rattle.std.proofs.Common.{◌≡◌, ℕ, ◌+◌, ◌*◌, ◌/◌, ◌%◌, ◌^◌, ◌<◌, sym, ap, ◌∙◌, subst, add-zero, mul_assoc, mul_comm, add-mul, add_comm, mul_left_comm, pow-add, shr_lt}
use native.Mathlib.Nat.{mul-mod_left, add-mul-mod_self_right}
use lib.Pow.{shl-shr, split, mod-pow-add}
use lib.Arith.{digits_lt}
use Rattle.word.specs.Word.{low}

-- to the left by k: the low j digits, k places up
pub shl_low : (x j k n : ℕ) → j + k ≡ n → x * 2 ^ k % 2 ^ n ≡ low j x * 2 ^ k
shl_low x j k n e =
    ap (λ (m : ℕ). x * 2 ^ k % 2 ^ m) (sym e) ∙ mod-pow-add (x * 2 ^ k) j k
    ∙ (λ i. (shl-shr x k i % 2 ^ j) * 2 ^ k + mul-mod_left x (2 ^ k) i) ∙ add-zero (low j x * 2 ^ k)

-- and back
pub shl_back : (x j k n : ℕ) → j + k ≡ n → x * 2 ^ k % 2 ^ n / 2 ^ k ≡ low j x
shl_back x j k n e = ap (λ (m : ℕ). m / 2 ^ k) (shl_low x j k n e) ∙ shl-shr (low j x) k

pub pow_parts : (j k n : ℕ) → j + k ≡ n → 2 ^ j * 2 ^ k ≡ 2 ^ n
pow_parts j k n e = sym (pow-add 2 j k) ∙ ap (λ (m : ℕ). 2 ^ m) e

-- j digits above k digits are n digits
pub joined_lt : {q r : ℕ} (j k n : ℕ) → j + k ≡ n → q < 2 ^ j → r < 2 ^ k → q * 2 ^ k + r < 2 ^ n
joined_lt {q} {r} j k n e hq hr = subst (λ (m : ℕ). q * 2 ^ k + r < m) (pow_parts j k n e) (digits_lt hq hr)

-- what a shift to the right by k leaves of n digits
pub top_lt : {x : ℕ} (j k n : ℕ) → j + k ≡ n → x < 2 ^ n → x / 2 ^ k < 2 ^ j
top_lt {x} j k n e h = shr_lt j k (subst (λ (m : ℕ). x < 2 ^ m) (sym e) h)

-- a product's low k bits come from the factor's low k bits
pub low_scaled : (k a b : ℕ) → low k (low k a * b) ≡ low k (a * b)
low_scaled k a b =
    sym (ap (λ (i : ℕ). low k (i * b)) (sym (split a k)) ∙ ap (low k) (add-mul (a / 2 ^ k * 2 ^ k) (low k a) b ∙ turn)
    ∙ add-mul-mod_self_right (low k a * b) (a / 2 ^ k * b) (2 ^ k))
  where
    turn : a / 2 ^ k * 2 ^ k * b + low k a * b ≡ low k a * b + a / 2 ^ k * b * 2 ^ k
    turn = simp (mul_assoc, mul_comm, mul_left_comm, add_comm)

pub low_product : (k a b : ℕ) → low k (low k a * low k b) ≡ low k (a * b)
low_product k a b = low_scaled k a (low k b) ∙ ap (low k) (mul_comm a (low k b)) ∙ low_scaled k b a ∙ ap (low k) (mul_comm b a)
