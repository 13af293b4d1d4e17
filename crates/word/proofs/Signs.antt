-- The signed reading of a number, at every width w that the machine has: from bits to the signed number and back. Assumes nothing.
use Rattle.std.proofs.Common.{◌≡◌, ℕ, zero, suc, ◌+◌, ◌-◌, ◌%◌, ◌^◌, ◌<◌, ◌≤◌, Bool, true, false, cond, ltb, ℤ, pos, negsuc, ◌-ℤ◌, sym, refl, ap, ◌∙◌, subst, mod-lt, mod-eq_of_lt, arith, pow_pos, to_z-of_z, w8, w16, w32, w64, SFits, to_z, of_z, ltb-false, ltb-true}
use native.Mathlib.Nat.{add-mod_right}
use lib.Signed.{shr_z, mag_shr}
use mir.Syntax.{Width, w128}
use mir.Val.{sel, bits, hbits}
use mir.Facts.{sfits_to_z}
use Rattle.word.specs.Word.{low, cut, signed, signed_of}

sel_cond : (b : Bool) (p q : ℤ) → sel b p q ≡ cond b p q
sel_cond true p q = refl
sel_cond false p q = refl

-- half of a width's numbers have the top bit set
pub half : (w : Width) → hbits w ≡ bits w - 1
half w8 = refl
half w16 = refl
half w32 = refl
half w64 = refl
half w128 = refl

pub twice : (w : Width) → 2 ^ bits w ≡ 2 ^ hbits w + 2 ^ hbits w
twice w8 = refl
twice w16 = refl
twice w32 = refl
twice w64 = refl
twice w128 = refl

-- what the machine reads is what the definition reads
pub to_z_signed_of : (w : Width) (n : ℕ) → to_z w n ≡ signed_of (bits w) n
to_z_signed_of w n =
    sel_cond (ltb n (2 ^ hbits w)) (pos n) (negsuc (2 ^ bits w - suc n))
    ∙ ap (λ (h : ℕ). cond (ltb n (2 ^ h)) (pos n) (negsuc (2 ^ bits w - suc n))) (half w)

pub to_z_signed : (w : Width) (x : ℕ) → x < 2 ^ bits w → to_z w x ≡ signed (bits w) x
to_z_signed w x h = to_z_signed_of w x ∙ ap (signed_of (bits w)) (sym (mod-eq_of_lt h))

pub signed_fits : (w : Width) (x : ℕ) → SFits w (signed (bits w) x)
signed_fits w x =
    subst (SFits w) (to_z_signed_of w (low (bits w) x)) (sfits_to_z {n = low (bits w) x} (record { fits = mod-lt x (pow_pos (bits w)) }))

-- a signed number's bits are its remainder modulo 2 ^ k
pub of_z_cut : (w : Width) (z : ℤ) → SFits w z → of_z w z ≡ cut (bits w) z
of_z_cut w (pos n) f =
    let h : n < 2 ^ bits w = omega (arith, f.sfits, twice w) in
    sym (mod-eq_of_lt h)
of_z_cut w (negsuc n) f =
    let h : n < 2 ^ bits w = omega (arith, f.sfits, twice w) in
    ap (λ (m : ℕ). 2 ^ bits w - suc m) (sym (mod-eq_of_lt h))

-- a signed value that goes from one call to the next is read back from its bits
pub back : {w : Width} {r x : ℤ} → r ≡ x → SFits w x → to_z w (of_z w r) ≡ x
back p f = rw (p, to_z-of_z f)

-- a shift to the right keeps a number in range
pub shr_fits : (w : Width) (x : ℤ) (m : ℕ) → SFits w x → SFits w (shr_z x m)
shr_fits w x m f = record { sfits = omega (arith, f.sfits, mag_shr x m) }

pub shr_code : {w : Width} {r x : ℤ} (m : ℕ) → r ≡ x → SFits w x → to_z w (of_z w (shr_z (to_z w (of_z w r)) m)) ≡ shr_z x m
shr_code {w} {r} {x} m p f = rw (p, to_z-of_z f, to_z-of_z (shr_fits w x m f))

-- a difference of two numbers, cut to k bits, in plain sums
pub cut_sub : (k a b : ℕ) → b ≤ 2 ^ k → cut k (pos a -ℤ pos b) ≡ (a + (2 ^ k - b)) % 2 ^ k
cut_sub k a zero h =
    let e : a + (2 ^ k - 0) ≡ a + 0 + 2 ^ k = omega arith in
    sym (ap (λ (i : ℕ). i % 2 ^ k) e ∙ add-mod_right (a + 0) (2 ^ k))
cut_sub k a (suc b) h = by (ltb a (suc b)) refl
  where
    by : (t : Bool) → ltb a (suc b) ≡ t → cut k (cond t (negsuc (suc b - suc a)) (pos (a - suc b))) ≡ (a + (2 ^ k - suc b)) % 2 ^ k
    by true q =
        let l : a < suc b = ltb-true a (suc b) q in
        let m : suc b - suc a < 2 ^ k = omega arith in
        let n : a + (2 ^ k - suc b) < 2 ^ k = omega arith in
        let e : 2 ^ k - suc (suc b - suc a) ≡ a + (2 ^ k - suc b) = omega arith in
        ap (λ (i : ℕ). 2 ^ k - suc i) (mod-eq_of_lt m) ∙ e ∙ sym (mod-eq_of_lt n)
    by false q =
        let l : suc b ≤ a = ltb-false a (suc b) q in
        let e : a + (2 ^ k - suc b) ≡ a - suc b + 2 ^ k = omega arith in
        sym (ap (λ (i : ℕ). i % 2 ^ k) e ∙ add-mod_right (a - suc b) (2 ^ k))
