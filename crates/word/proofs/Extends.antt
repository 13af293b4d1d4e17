-- Sign extension, at every width k: it looks at the low k bits alone, keeps their signed value, and is a shift up and back. Assumes nothing.
use Rattle.std.proofs.Common.{◌≡◌, ℕ, suc, ◌+◌, ◌-◌, ◌*◌, ◌/◌, ◌%◌, ◌^◌, ◌<◌, ◌≤◌, Bool, true, false, ltb, ℤ, pos, negsuc, sym, refl, ap, ◌∙◌, mul-le-mul_right, mod-lt, mod-eq_of_lt, suc-mul, add-mul, mul-lt-mul_of_pos_right, arith, pow_pos, pow_mono, pow-add, w32, w64, SFits, to_z, of_z, ltb-false, ltb-true, le-ltb, lt-ltb}
use native.Mathlib.Nat.{mod-mod}
use lib.Pow as Pow
use lib.Pow.{shl-shr, mod-mod-pow}
use lib.Signed.{mag, shr_z}
use Rattle.word.specs.Word.{low, cut, sext, sext_of, signed, signed_of}
use mir.Facts.{sfits_widen}
use Rattle.word.proofs.Shifts.{shl_low, pow_parts}
use Rattle.word.proofs.Signs.{back}

-- the two cases of the top bit
pub sext_lo : (k : ℕ) {n : ℕ} → n < 2 ^ (k - 1) → sext_of k n ≡ n
sext_lo k {n} h = rw (lt-ltb n (2 ^ (k - 1)) h)

pub sext_hi : (k : ℕ) {n : ℕ} → 2 ^ (k - 1) ≤ n → sext_of k n ≡ n + (2 ^ 64 - 2 ^ k)
sext_hi k {n} h = rw (le-ltb n (2 ^ (k - 1)) h)

pub signed_lo : (k : ℕ) {n : ℕ} → n < 2 ^ (k - 1) → signed_of k n ≡ pos n
signed_lo k {n} h = rw (lt-ltb n (2 ^ (k - 1)) h)

pub signed_hi : (k : ℕ) {n : ℕ} → 2 ^ (k - 1) ≤ n → signed_of k n ≡ negsuc (2 ^ k - suc n)
signed_hi k {n} h = rw (le-ltb n (2 ^ (k - 1)) h)

-- only the low k bits count
pub sext_same : (k x y : ℕ) → low k x ≡ low k y → sext k x ≡ sext k y
sext_same k x y e = ap (sext_of k) e

pub sext_low : (j k x : ℕ) → sext k (x % 2 ^ (j + k)) ≡ sext k x
sext_low j k x = sext_same k (x % 2 ^ (j + k)) x (mod-mod-pow x j k)

halves : (k : ℕ) → 0 < k → 2 ^ k ≡ 2 ^ (k - 1) + 2 ^ (k - 1)
halves k h = let e : k ≡ (k - 1) + 1 = omega arith in ap (λ (i : ℕ). 2 ^ i) e ∙ pow-add 2 (k - 1) 1 ∙ omega arith

module _ (k : ℕ) (h₀ : 0 < k) (h₁ : k ≤ 64) (n : ℕ) (hn : n < 2 ^ k) where
  -- the 64 bits of the signed value
  cut_by : (t : Bool) → ltb n (2 ^ (k - 1)) ≡ t → cut 64 (signed_of k n) ≡ sext_of k n
  cut_by true e =
      let h : n < 2 ^ (k - 1) = ltb-true _ _ e in
      let p : 2 ^ k ≤ 2 ^ 64 = pow_mono h₁ in
      let m : n < 2 ^ 64 = omega arith in
      ap (cut 64) (signed_lo k h) ∙ mod-eq_of_lt m ∙ sym (sext_lo k h)
  cut_by false e =
      let h : 2 ^ (k - 1) ≤ n = ltb-false _ _ e in
      let p : 2 ^ k ≤ 2 ^ 64 = pow_mono h₁ in
      let m : 2 ^ k - suc n < 2 ^ 64 = omega arith in
      let q : 2 ^ 64 - suc (2 ^ k - suc n) ≡ n + (2 ^ 64 - 2 ^ k) = omega arith in
      ap (cut 64) (signed_hi k h) ∙ ap (λ (i : ℕ). 2 ^ 64 - suc i) (mod-eq_of_lt m) ∙ q ∙ sym (sext_hi k h)

  -- the signed value of the extended word
  signed_by : (t : Bool) → ltb n (2 ^ (k - 1)) ≡ t → signed 64 (sext_of k n) ≡ signed_of k n
  signed_by true e =
      let h : n < 2 ^ (k - 1) = ltb-true _ _ e in
      let p : 2 ^ k ≤ 2 ^ 64 = pow_mono h₁ in
      let s : n < 2 ^ 63 = omega (arith, halves k h₀) in
      let m : n < 2 ^ 64 = omega arith in
      ap (signed 64) (sext_lo k h) ∙ ap (signed_of 64) (mod-eq_of_lt m) ∙ signed_lo 64 s ∙ sym (signed_lo k h)
  signed_by false e =
      let h : 2 ^ (k - 1) ≤ n = ltb-false _ _ e in
      let p : 2 ^ k ≤ 2 ^ 64 = pow_mono h₁ in
      let s : 2 ^ 63 ≤ n + (2 ^ 64 - 2 ^ k) = omega (arith, halves k h₀) in
      let m : n + (2 ^ 64 - 2 ^ k) < 2 ^ 64 = omega arith in
      let q : 2 ^ 64 - suc (n + (2 ^ 64 - 2 ^ k)) ≡ 2 ^ k - suc n = omega arith in
      ap (signed 64) (sext_hi k h) ∙ ap (signed_of 64) (mod-eq_of_lt m) ∙ signed_hi 64 s ∙ ap negsuc q ∙ sym (signed_hi k h)

  -- the word at the top of the register, s = 64 - k places up, shifted back with its sign
  module _ (s : ℕ) (e : k + s ≡ 64) where
    top : 2 ^ (k - 1) * 2 ^ s ≡ 2 ^ 63
    top = pow_parts (k - 1) s 63 (omega arith)

    whole : (2 ^ k - suc n) * 2 ^ s + (n * 2 ^ s + 2 ^ s) ≡ 2 ^ 64
    whole =
        let d : (2 ^ k - suc n) + suc n ≡ 2 ^ k = omega arith in
        ap (λ (i : ℕ). (2 ^ k - suc n) * 2 ^ s + i) (sym (suc-mul n (2 ^ s)))
        ∙ sym (add-mul (2 ^ k - suc n) (suc n) (2 ^ s)) ∙ ap (λ (i : ℕ). i * 2 ^ s) d ∙ pow_parts k s 64 e

    push_by : (t : Bool) → ltb n (2 ^ (k - 1)) ≡ t → shr_z (signed_of 64 (n * 2 ^ s)) (2 ^ s) ≡ signed_of k n
    push_by true q =
        let h : n < 2 ^ (k - 1) = ltb-true _ _ q in
        let l : n * 2 ^ s < 2 ^ (k - 1) * 2 ^ s = mul-lt-mul_of_pos_right h (pow_pos s) in
        let m : n * 2 ^ s < 2 ^ 63 = omega (arith, top) in
        ap (λ (z : ℤ). shr_z z (2 ^ s)) (signed_lo 64 m) ∙ ap pos (shl-shr n s) ∙ sym (signed_lo k h)
    push_by false q =
        let h : 2 ^ (k - 1) ≤ n = ltb-false _ _ q in
        let l : 2 ^ (k - 1) * 2 ^ s ≤ n * 2 ^ s = mul-le-mul_right (2 ^ s) h in
        let m : 2 ^ 63 ≤ n * 2 ^ s = omega (arith, top) in
        let p : 0 < 2 ^ s = pow_pos s in
        let r : 2 ^ s - 1 < 2 ^ s = omega arith in
        let j : 2 ^ 64 - suc (n * 2 ^ s) ≡ (2 ^ k - suc n) * 2 ^ s + (2 ^ s - 1) = omega (arith, whole) in
        ap (λ (z : ℤ). shr_z z (2 ^ s)) (signed_hi 64 m) ∙ ap (λ (i : ℕ). negsuc (i / 2 ^ s)) j
        ∙ ap negsuc (Pow.high (2 ^ k - suc n) s r) ∙ sym (signed_hi k h)

pub sext_cut : (k : ℕ) → 0 < k → k ≤ 64 → (x : ℕ) → cut 64 (signed k x) ≡ sext k x
sext_cut k h₀ h₁ x = cut_by k h₀ h₁ (low k x) (mod-lt x (pow_pos k)) (ltb (low k x) (2 ^ (k - 1))) refl

pub sext_signed : (k : ℕ) → 0 < k → k ≤ 64 → (x : ℕ) → signed 64 (sext k x) ≡ signed k x
sext_signed k h₀ h₁ x = signed_by k h₀ h₁ (low k x) (mod-lt x (pow_pos k)) (ltb (low k x) (2 ^ (k - 1))) refl

-- pushed up by s, and back: the code of `sign_extend`
pub sext_pushed : (k s : ℕ) → 0 < k → k + s ≡ 64 → (x : ℕ) → cut 64 (shr_z (signed 64 (x * 2 ^ s % 2 ^ 64)) (2 ^ s)) ≡ sext k x
sext_pushed k s h₀ e x =
    let h₁ : k ≤ 64 = omega arith in
    let n : low k x < 2 ^ k = mod-lt x (pow_pos k) in
    ap (λ (i : ℕ). cut 64 (shr_z (signed_of 64 i) (2 ^ s))) (mod-mod (x * 2 ^ s) (2 ^ 64) ∙ shl_low x k s 64 e)
    ∙ ap (cut 64) (push_by k h₀ h₁ (low k x) n s e (ltb (low k x) (2 ^ (k - 1))) refl) ∙ sext_cut k h₀ h₁ x

-- a number that k bits hold with its sign is read back from its k bits
module _ (k : ℕ) (h₀ : 0 < k) where
  pub signed_cut : (z : ℤ) → mag z < 2 ^ (k - 1) → signed k (cut k z) ≡ z
  signed_cut (pos n) h =
      let m : n < 2 ^ k = omega (arith, halves k h₀) in
      ap (signed_of k) (mod-mod n (2 ^ k) ∙ mod-eq_of_lt m) ∙ signed_lo k h
  signed_cut (negsuc n) h =
      let m : n < 2 ^ k = omega (arith, halves k h₀) in
      let l : 2 ^ k - suc n < 2 ^ k = omega arith in
      let u : 2 ^ (k - 1) ≤ 2 ^ k - suc n = omega (arith, halves k h₀) in
      let e : 2 ^ k - suc (2 ^ k - suc n) ≡ n = omega arith in
      ap (λ (i : ℕ). signed k (2 ^ k - suc i)) (mod-eq_of_lt m) ∙ ap (signed_of k) (mod-eq_of_lt l) ∙ signed_hi k u ∙ ap negsuc e

  -- and then its k bits, sign-extended, are its 64 bits
  pub sext_fit : k ≤ 64 → (z : ℤ) → mag z < 2 ^ (k - 1) → cut 64 z ≡ sext k (cut k z)
  sext_fit h₁ z h = sym (ap (cut 64) (signed_cut z h)) ∙ sext_cut k h₀ h₁ (cut k z)

-- a word's value in an i64, and then in a register
pub word_bits : {r z : ℤ} → r ≡ z → SFits w32 z → cut 64 (to_z w64 (of_z w64 r)) ≡ sext 32 (cut 32 z)
word_bits {r} {z} e f =
    ap (cut 64) (back {w = w64} e (sfits_widen {w = w32} {w' = w64} tt f)) ∙ sext_fit 32 (omega arith) (omega arith) z f.sfits
