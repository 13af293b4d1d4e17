-- Facts of numbers in bytes, each once for every width.
use mathlib.Core.Path.{◌≡◌, refl, sym, ap, ◌∙◌}
use mathlib.Core.List.{List}
use Prim.Native.Nat.{ℕ, zero, suc, ◌+◌, ◌*◌, ◌/◌, ◌%◌, ◌^◌, ◌≤◌, ◌<◌}
use native.Mathlib.Nat.{mul_comm, mul_assoc, zero-add, add-zero, suc-add, add-suc, one-mul, div-one, pow-succ', one-le-pow, div-div-eq-div-mul}
use native.Mathlib.Omega.{arith}
use lib.Dec.{lit<}
use lib.Arith.{mod-mul}
use lib.ListN.{length, get_or, set, length-set}
use lib.Seq.{get_or-set_same, get_or-set_other}
use Rattle.byte_order.specs.Bytes.{get_le, put_le}

-- a number of m + n bytes is its lower m bytes and its upper n
pub get_join : (m n at : ℕ) (s : List ℕ) → get_le (m + n) at s ≡ get_le m at s + 256 ^ m * get_le n (at + m) s
unfolding get_le
get_join zero n at s = simp (zero-add, add-zero, one-mul)
get_join (suc m) n at s =
    let r : get_le (m + n) (suc at) s ≡ get_le m (suc at) s + 256 ^ m * get_le n (suc at + m) s = get_join m n (suc at) s in
    let e : suc m + n ≡ suc (m + n) = omega arith in
    let f : suc at + m ≡ at + suc m = omega arith in
    rw (e, get_le, r, f, pow-succ' 256 m, mul_assoc) (omega arith)

pub put_join : (m n at v : ℕ) (s : List ℕ) → put_le (m + n) at v s ≡ put_le n (at + m) (v / 256 ^ m) (put_le m at v s)
unfolding put_le
put_join zero n at v s = simp (zero-add, add-zero, div-one)
put_join (suc m) n at v s =
    let e : suc m + n ≡ suc (m + n) = omega arith in
    let f : suc at + m ≡ at + suc m = omega arith in
    let q : v / 256 / 256 ^ m ≡ v / 256 ^ suc m = div-div-eq-div-mul v 256 (256 ^ m) ∙ ap (λ (x : ℕ). v / x) (sym (pow-succ' 256 m)) in
    rw (e, put_le, put_join m n (suc at) (v / 256) (set s at (v % 256)), f, q) refl

-- the length is kept
pub length_put : (n at v : ℕ) (s : List ℕ) → length (put_le n at v s) ≡ length s
unfolding put_le
length_put zero at v s = refl
length_put (suc n) at v s = length_put n (suc at) (v / 256) (set s at (v % 256)) ∙ length-set s at (v % 256)

-- a byte below is as before, and one above
pub put_below : (n at v : ℕ) (s : List ℕ) (k : ℕ) → k < at → get_or (put_le n at v s) k 0 ≡ get_or s k 0
unfolding put_le
put_below zero at v s k h = refl
put_below (suc n) at v s k h =
    put_below n (suc at) (v / 256) (set s at (v % 256)) k (omega arith) ∙ get_or-set_other s at k (v % 256) 0 (omega arith)

pub put_above : (n at v : ℕ) (s : List ℕ) (k : ℕ) → at + n ≤ k → get_or (put_le n at v s) k 0 ≡ get_or s k 0
unfolding put_le
put_above zero at v s k h = refl
put_above (suc n) at v s k h =
    put_above n (suc at) (v / 256) (set s at (v % 256)) k (omega arith) ∙ get_or-set_other s at k (v % 256) 0 (omega arith)

-- the number depends on its n bytes alone
pub get_ext : (n a b : ℕ) (s t : List ℕ) → ((k : ℕ) → k < n → get_or s (a + k) 0 ≡ get_or t (b + k) 0) → get_le n a s ≡ get_le n b t
unfolding get_le
get_ext zero a b s t h = refl
get_ext (suc n) a b s t h =
    let z : get_or s a 0 ≡ get_or t b 0 = simp add-zero at (h 0 (omega arith)) in
    let r : get_le n (suc a) s ≡ get_le n (suc b) t = get_ext n (suc a) (suc b) s t (λ k l. simp (suc-add, ← add-suc) (h (suc k) (omega arith))) in
    rw (z, r) refl

-- the bytes that are written do not depend on the place
pub put_ext : (n a b v : ℕ) (s t : List ℕ) → a + n ≤ length s → b + n ≤ length t → (k : ℕ) → k < n
    → get_or (put_le n a v s) (a + k) 0 ≡ get_or (put_le n b v t) (b + k) 0
unfolding put_le
put_ext zero a b v s t p q k h = absurd (omega arith)
put_ext (suc n) a b v s t p q zero h = first a s p ∙ sym (first b t q)
  where
    first : (c : ℕ) (u : List ℕ) → c + suc n ≤ length u → get_or (put_le n (suc c) (v / 256) (set u c (v % 256))) (c + 0) 0 ≡ v % 256
    first c u l =
        rw add-zero
        (put_below n (suc c) (v / 256) (set u c (v % 256)) c (omega arith) ∙ get_or-set_same u c (v % 256) 0 (omega arith))
put_ext (suc n) a b v s t p q (suc k) h =
    simp (add-suc, ← suc-add)
    (put_ext n (suc a) (suc b) (v / 256) (set s a (v % 256)) (set t b (v % 256)) (rw length-set (omega arith)) (rw length-set (omega arith)) k (omega arith))

-- what is read after a write at the same place
pub get_put : (n at v : ℕ) (s : List ℕ) → at + n ≤ length s → get_le n at (put_le n at v s) ≡ v % 256 ^ n
unfolding get_le put_le
get_put zero at v s h = omega arith
get_put (suc n) at v s h =
    let t : List ℕ = set s at (v % 256) in
    let b : get_or (put_le n (suc at) (v / 256) t) at 0 ≡ v % 256 =
    put_below n (suc at) (v / 256) t at (omega arith) ∙ get_or-set_same s at (v % 256) 0 (omega arith) in
    let r : get_le n (suc at) (put_le n (suc at) (v / 256) t) ≡ v / 256 % 256 ^ n =
    get_put n (suc at) (v / 256) t (rw length-set (omega arith)) in
    let p : v % (256 ^ n * 256) ≡ (v / 256 % 256 ^ n) * 256 + v % 256 = mod-mul v (one-le-pow n 256 (lit< tt)) (lit< tt) in
    let q : 256 ^ suc n ≡ 256 ^ n * 256 = pow-succ' 256 n ∙ mul_comm 256 (256 ^ n) in
    rw (b, r, q, p) (omega arith)
