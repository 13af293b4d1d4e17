-- What stands in a list from a place on (`drop at f ≡ xs ++ rest`): bytes read as a number, and a number as bytes. Each law once for
-- every width.
use mathlib.Core.Path.{◌≡◌, refl, sym, ap, ◌∙◌}
use mathlib.Core.List.{List, [], ◌∷◌, ◌++◌}
use Prim.Native.Nat.{ℕ, zero, suc, ◌+◌, ◌*◌, ◌-◌, ◌/◌, ◌%◌, ◌^◌, ◌≤◌, ◌<◌}
use native.Mathlib.Nat.{add-zero, mul_comm, pow-succ', one-le-pow}
use native.Mathlib.Numerals.{add-one}
use native.Mathlib.Omega.{arith}
use lib.Dec.{lit<}
use lib.Arith.{mod-mul}
use lib.ListN.{length, drop, get_or, set, length-drop}
use lib.Seq.{sets, get_or-drop, drop-drop, drop-append_seam, drop-cons}
use Rattle.byte_order.specs.Bytes.{get_le, put_le, bytes_le, AreBytes}

pub length_bytes : (n v : ℕ) → length (bytes_le n v) ≡ n
unfolding bytes_le
length_bytes zero v = refl
length_bytes (suc n) v = ap suc (length_bytes n (v / 256))

-- a number is put as its bytes
pub put_sets : (n at v : ℕ) (s : List ℕ) → put_le n at v s ≡ sets s at (bytes_le n v)
unfolding put_le bytes_le
put_sets zero at v s = refl
put_sets (suc n) at v s = put_sets n (suc at) (v / 256) (set s at (v % 256))

-- the first element, that there is one, and what follows some elements
pub head_at : (f : List ℕ) (at x : ℕ) (r : List ℕ) → drop at f ≡ x ∷ r → get_or f at 0 ≡ x
head_at f at x r e =
    let z : at + 0 ≡ at = omega arith in
    ap (λ n. get_or f n 0) (sym z) ∙ sym (get_or-drop at f 0 0) ∙ ap (λ l. get_or l 0 0) e

pub lt_at : (f : List ℕ) (at x : ℕ) (r : List ℕ) → drop at f ≡ x ∷ r → at < length f
lt_at f at x r e =
    let h : length f - at ≡ suc (length r) = sym (length-drop at f) ∙ ap (λ l. length l) e in
    omega (arith, h)

pub past : (f : List ℕ) (at n : ℕ) (xs r : List ℕ) → length xs ≡ n → drop at f ≡ xs ++ r → drop (at + n) f ≡ r
past f at n xs r h e = sym (drop-drop n at f) ∙ ap (λ l. drop n l) e ∙ ap (λ k. drop k (xs ++ r)) (sym h) ∙ drop-append_seam xs r

-- bytes that stand there are read as their number
pub read_at : (n v : ℕ) (f rest : List ℕ) (at : ℕ) → drop at f ≡ bytes_le n v ++ rest → get_le n at f ≡ v % 256 ^ n
unfolding get_le bytes_le
read_at zero v f rest at e = omega arith
read_at (suc n) v f rest at e =
    let h : get_or f at 0 ≡ v % 256 = head_at f at (v % 256) (bytes_le n (v / 256) ++ rest) e in
    let t : drop (suc at) f ≡ bytes_le n (v / 256) ++ rest = rw add-one at (past f at 1 (v % 256 ∷ []) (bytes_le n (v / 256) ++ rest) refl e) in
    let r : get_le n (suc at) f ≡ v / 256 % 256 ^ n = read_at n (v / 256) f rest (suc at) t in
    let p : v % (256 ^ n * 256) ≡ (v / 256 % 256 ^ n) * 256 + v % 256 = mod-mul v (one-le-pow n 256 (lit< tt)) (lit< tt) in
    let q : 256 ^ suc n ≡ 256 ^ n * 256 = pow-succ' 256 n ∙ mul_comm 256 (256 ^ n) in
    rw (h, r, q, p) (omega arith)

-- and the number that is read there has these bytes
pub bytes_at : (n : ℕ) (f : List ℕ) (at : ℕ) → AreBytes f → at + n ≤ length f → drop at f ≡ bytes_le n (get_le n at f) ++ drop (at + n) f
unfolding get_le bytes_le
bytes_at zero f at h l = rw add-zero refl
bytes_at (suc n) f at h l =
    let b : get_or f at 0 < 256 = h at in
    let g : ℕ = get_le n (suc at) f in
    let low : (get_or f at 0 + 256 * g) % 256 ≡ get_or f at 0 = omega arith in
    let rest : (get_or f at 0 + 256 * g) / 256 ≡ g = omega arith in
    let e : at + suc n ≡ suc at + n = omega arith in
    rw (low, rest, e, drop-cons f at 0 (omega arith)) (ap (λ r. get_or f at 0 ∷ r) (bytes_at n f (suc at) h (omega arith)))
