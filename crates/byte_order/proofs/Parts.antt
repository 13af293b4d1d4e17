-- The bytes of one number as part of eight, and as part of a list.
use Rattle.std.proofs.Common.{◌≡◌, refl, sym, ap, ◌∙◌, arith, ℕ, zero, suc, ◌+◌, ◌/◌, ◌%◌, ◌-◌, ◌^◌, ◌≤◌, ◌<◌, List, [], ◌∷◌, ◌++◌, length, take, drop, replicate, get_or}
use Rattle.std.specs.Int.{w64, byte_at, bytes_low_first, from_le_bytes, to_le_bytes}
use Rattle.std.proofs.lemmas.List.{append_assoc, drop-replicate, drop-drop, get_or-take, length-take-le, length-drop}
use native.Mathlib.Nat.{zero-add, pow-succ', pow-suc, div-div-eq-div-mul, div-one}
use lib.Seq.{sets-eq, get_or-drop}
use borrow.Rule.Slice.PartMut.{put_mid}
use Rattle.byte_order.specs.Bytes.{get_le, put_le, bytes_le, AreBytes}
use Rattle.byte_order.proofs.Numbers.{get_ext}
use Rattle.byte_order.proofs.Stands.{length_bytes, put_sets}

-- n bytes make a number below 256 ^ n
pub get_below : (n at : ℕ) (s : List ℕ) → AreBytes s → get_le n at s < 256 ^ n
unfolding get_le
get_below zero at s h = omega arith
get_below (suc n) at s h = omega (arith, h at, get_below n (suc at) s h, pow-succ' 256 n)

-- a byte in front moves the places on
get_behind : (n at x : ℕ) (s : List ℕ) → get_le n (suc at) (x ∷ s) ≡ get_le n at s
unfolding get_le
get_behind zero at x s = refl
get_behind (suc n) at x s = rw (get_behind n (suc at) x s) refl

zero_at : (m i : ℕ) → get_or {A = ℕ} (replicate m 0) i 0 ≡ 0
zero_at zero i = refl
zero_at (suc m) zero = refl
zero_at (suc m) (suc i) = zero_at m i

zeros : (n at m : ℕ) → get_le n at (replicate m 0) ≡ 0
unfolding get_le
zeros zero at m = refl
zeros (suc n) at m = rw (zero_at m at, zeros n (suc at) m) refl

-- zeros behind the bytes add nothing
before_zeros : (ys : List ℕ) (m k : ℕ) → k ≡ length ys + m → get_le k 0 (ys ++ replicate m 0) ≡ get_le (length ys) 0 ys
unfolding get_le
before_zeros [] m k e = zeros k 0 m
before_zeros (y ∷ ys) m zero e = absurd (omega arith)
before_zeros (y ∷ ys) m (suc k) e =
    rw (get_behind k 0 y (ys ++ replicate m 0), get_behind (length ys) 0 y ys, before_zeros ys m k (omega arith)) refl

eight : (s : List ℕ) → from_le_bytes w64 s ≡ get_le 8 0 s
unfolding get_le
eight s = omega arith

-- the n bytes of a list from `at` on, read among eight that were zero
pub get_part : (n at : ℕ) (s ys : List ℕ) → n ≤ 8 → at + n ≤ length s → ys ≡ take (at + n - at) (drop at s)
    → from_le_bytes w64 (put_mid 0 n (replicate 8 0) ys) ≡ get_le n at s
unfolding get_le
get_part n at s ys h l e =
    let width : at + n - at ≡ n = omega arith in
    let part : ys ≡ take n (drop at s) = e ∙ ap (λ k. take k (drop at s)) width in
    let long : length ys ≡ n = rw part (length-take-le n (drop at s) (rw length-drop (omega arith))) in
    let shape : put_mid 0 n (replicate 8 0) ys ≡ ys ++ replicate (8 - n) 0 = rw (drop-replicate {X = ℕ} n 8 0) refl in
    let same : get_le n 0 ys ≡ get_le n at s =
    get_ext n 0 at ys s (λ k below. rw (zero-add, part) (get_or-take n (drop at s) k 0 below ∙ get_or-drop at s k 0)) in
    eight (put_mid 0 n (replicate 8 0) ys) ∙ ap (get_le 8 0) shape ∙ before_zeros ys (8 - n) 8 (omega arith) ∙ ap (λ (k : ℕ). get_le k 0 ys) long ∙ same

byte_at-pow : (i v : ℕ) → byte_at i v ≡ v / 256 ^ i % 256
byte_at-pow zero v = ap (λ (x : ℕ). x % 256) (sym (div-one v))
byte_at-pow (suc i) v = refl

-- the lowest bytes of the eight of a number
taken : (n k i v : ℕ) → n ≤ k → take n (bytes_low_first i k v) ≡ bytes_le n (v / 256 ^ i)
unfolding bytes_le
taken zero k i v h = refl
taken (suc n) zero i v h = absurd (omega arith)
taken (suc n) (suc k) i v h =
    let rest : v / 256 ^ suc i ≡ v / 256 ^ i / 256 = ap (λ x. v / x) (pow-suc 256 i) ∙ sym (div-div-eq-div-mul v (256 ^ i) 256) in
    rw (byte_at-pow i v, taken n k (suc i) v (omega arith), rest) refl

-- and these put as part of a list
pub put_part : (n at v : ℕ) (s ys : List ℕ) → n ≤ 8 → at + n ≤ length s → ys ≡ take n (to_le_bytes w64 v)
    → put_mid at (at + n - at) s ys ≡ put_le n at v s
put_part n at v s ys h l e =
    let bytes : ys ≡ bytes_le n v = e ∙ taken n 8 0 v h ∙ ap (bytes_le n) (div-one v) in
    let long : length (bytes_le n v) ≡ n = length_bytes n v in
    let width : at + n - at ≡ n = omega arith in
    let written : put_le n at v s ≡ take at s ++ bytes_le n v ++ drop (at + length (bytes_le n v)) s = put_sets n at v s ∙ sets-eq (bytes_le n v) s at (omega (arith, l, long)) in
    rw (bytes, written, long, width, drop-drop) (sym (append_assoc (take at s) (bytes_le n v) (drop (at + n) s)))
