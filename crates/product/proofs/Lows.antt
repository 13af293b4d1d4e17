-- The low k bits of a signed product are those of the plain product, at every width k. Assumes nothing.
use mathlib.Core.Path.{◌≡◌, refl, sym, ap, ◌∙◌}
use mathlib.Core.Bool.{Bool, true, false}
use Prim.Native.Nat.{ℕ, zero, suc, ◌+◌, ◌-◌, ◌*◌, ◌%◌, ◌^◌, ◌<◌, ◌≤◌}
use native.Mathlib.Omega.{arith}
use native.Mathlib.Nat.{mod-eq_of_lt, mod-lt, mod-mod, mod-eq-sub-mod, mod-add-mod, add-mod-mod, mul-mod_left, mul-mod_right, add-mul, mul-add, add_comm, add_left_comm, add-mul-mod_self_left, add-mul-mod_self_right}
use lib.Dec.{ltb}
use lib.IntN.{pos, neg_ℤ, ◌*ℤ◌}
use lib.Pow.{pow_pos, mod-mod-pow}
use borrow.Author.Tests.{ltb-true, ltb-false}
use Rattle.word.specs.Word.{low, cut, sext, signed_of}
use Rattle.word.proofs.Shifts.{low_product}
use Rattle.word.proofs.Extends.{signed_lo, signed_hi, sext_same}
use Rattle.product.specs.Product.{signed_product}

-- t is above 0 and below 2 n, and a multiple of n: it is n
once : (t n : ℕ) → 0 < t → t < n + n → t % n ≡ 0 → t ≡ n
once t n h k e = by (ltb t n) refl
  where
    by : (b : Bool) → ltb t n ≡ b → t ≡ n
    by true q = let l : t < n = ltb-true t n q in omega (arith, mod-eq_of_lt l)
    by false q =
        let l : n ≤ t = ltb-false t n q in
        let m : t - n < n = omega arith in
        omega (arith, mod-eq-sub-mod l, mod-eq_of_lt m)

cross : (A a B b : ℕ) → A * B + (A + a) * b ≡ a * b + A * (B + b)
cross A a B b = simp (add-mul, mul-add, add_comm, add_left_comm)

module _ (k : ℕ) where
  -- minus m, where m and n come to a multiple of 2 ^ k
  cut_neg : (m n : ℕ) → (m + n) % 2 ^ k ≡ 0 → cut k (neg_ℤ (pos m)) ≡ low k n
  cut_neg zero n e = let z : 0 + n ≡ n = omega arith in mod-eq_of_lt (pow_pos k) ∙ sym e ∙ ap (low k) z
  cut_neg (suc m) n e =
      let a : m + suc n ≡ suc m + n = omega arith in
      let b : suc (low k m) + n ≡ low k m + suc n = omega arith in
      let z : (suc (low k m) + low k n) % 2 ^ k ≡ 0 =
      add-mod-mod (suc (low k m)) n (2 ^ k) ∙ ap (low k) b ∙ mod-add-mod m (2 ^ k) (suc n) ∙ ap (low k) a ∙ e in
      let hm : low k m < 2 ^ k = mod-lt m (pow_pos k) in
      let hn : low k n < 2 ^ k = mod-lt n (pow_pos k) in
      omega (arith, once (suc (low k m) + low k n) (2 ^ k) (omega arith) (omega arith) z)

  -- numbers of k bits, by their top bits
  module _ (a b : ℕ) (ha : a < 2 ^ k) (hb : b < 2 ^ k) where
    whole_a : suc (2 ^ k - suc a) + a ≡ 2 ^ k
    whole_a = omega arith

    whole_b : suc (2 ^ k - suc b) + b ≡ 2 ^ k
    whole_b = omega arith

    by_signs : (p q : Bool) → ltb a (2 ^ (k - 1)) ≡ p → ltb b (2 ^ (k - 1)) ≡ q → cut k (signed_of k a *ℤ signed_of k b) ≡ low k (a * b)
    by_signs true true e f = rw (signed_lo k (ltb-true _ _ e), signed_lo k (ltb-true _ _ f))
    by_signs true false e f =
        rw (signed_lo k (ltb-true _ _ e), signed_hi k (ltb-false _ _ f))
        (cut_neg (a * suc (2 ^ k - suc b)) (a * b)
        (ap (low k) (sym (mul-add a (suc (2 ^ k - suc b)) b) ∙ ap (λ (i : ℕ). a * i) whole_b) ∙ mul-mod_left a (2 ^ k)))
    by_signs false true e f =
        rw (signed_hi k (ltb-false _ _ e), signed_lo k (ltb-true _ _ f))
        (cut_neg (suc (2 ^ k - suc a) * b) (a * b)
        (ap (low k) (sym (add-mul (suc (2 ^ k - suc a)) a b) ∙ ap (λ (i : ℕ). i * b) whole_a) ∙ mul-mod_right (2 ^ k) b))
    by_signs false false e f =
        rw (signed_hi k (ltb-false _ _ e), signed_hi k (ltb-false _ _ f))
        (sym (add-mul-mod_self_left (suc (2 ^ k - suc a) * suc (2 ^ k - suc b)) (2 ^ k) b)
        ∙ ap (low k) (ap (λ (i : ℕ). suc (2 ^ k - suc a) * suc (2 ^ k - suc b) + i * b) (sym whole_a)
        ∙ cross (suc (2 ^ k - suc a)) a (suc (2 ^ k - suc b)) b ∙ ap (λ (i : ℕ). a * b + suc (2 ^ k - suc a) * i) whole_b)
        ∙ add-mul-mod_self_right (a * b) (suc (2 ^ k - suc a)) (2 ^ k))

  pub product_low : (a b : ℕ) → cut k (signed_product k a b) ≡ low k (a * b)
  product_low a b =
      by_signs (low k a) (low k b) (mod-lt a (pow_pos k)) (mod-lt b (pow_pos k)) (ltb (low k a) (2 ^ (k - 1))) (ltb (low k b) (2 ^ (k - 1))) refl refl
      ∙ low_product k a b

-- the low word of the registers' product, sign-extended
pub word_low : {n : ℕ} (a b : ℕ) → n ≡ low 64 (a * b) → sext 32 n ≡ sext 32 (cut 32 (signed_product 32 a b))
word_low {n} a b e =
    sext_same 32 n (cut 32 (signed_product 32 a b))
    (ap (low 32) e ∙ mod-mod-pow (a * b) 32 32 ∙ sym (ap (low 32) (product_low 32 a b) ∙ mod-mod (a * b) (2 ^ 32)))

pub ruleset lows = (product_low, word_low)
