-- A number's bytes, and the registers one behind the other.
use Rattle.std.proofs.Common.{◌≡◌, refl, sym, ap, ◌∙◌, ℕ, zero, suc, ◌+◌, ◌/◌, ◌%◌, ◌^◌, ◌<◌, ◌≤◌, List, [], ◌++◌, length, drop, get_or}
use Rattle.std.specs.Int.{w64, byte_at, bytes_low_first, to_le_bytes}
use native.Mathlib.Nat.{pow-suc, div-div-eq-div-mul, div-one}
use native.Mathlib.Numerals.{add-one}
use lib.ListN.{drop_of_length-le}
use lib.Seq.{drop-cons}
use Rattle.byte_order.specs.Bytes.{bytes_le}
use Rattle.file.specs.Format.{bytes_of_each}

byte_at-pow : (i v : ℕ) → byte_at i v ≡ v / 256 ^ i % 256
byte_at-pow zero v = ap (λ (x : ℕ). x % 256) (sym (div-one v))
byte_at-pow (suc i) v = refl

low_first : (k i v : ℕ) → bytes_low_first i k v ≡ bytes_le k (v / 256 ^ i)
unfolding bytes_le
low_first zero i v = refl
low_first (suc k) i v =
    let rest : v / 256 ^ suc i ≡ v / 256 ^ i / 256 = ap (λ x. v / x) (pow-suc 256 i) ∙ sym (div-div-eq-div-mul v (256 ^ i) 256) in
    rw (byte_at-pow i v, low_first k (suc i) v, rest) refl

-- the eight bytes of a number
pub eight : (v : ℕ) → to_le_bytes w64 v ≡ bytes_le 8 v
eight v = low_first 8 0 v ∙ ap (bytes_le 8) (div-one v)

-- the numbers from i on: the first of them and the others, or none
pub each_turn : (xs : List ℕ) (i : ℕ) → i < length xs → bytes_of_each (drop i xs) ≡ bytes_le 8 (get_or xs i 0) ++ bytes_of_each (drop (i + 1) xs)
unfolding bytes_of_each
each_turn xs i h = rw (drop-cons xs i 0 h, add-one) refl

pub each_done : (xs : List ℕ) (i : ℕ) → length xs ≤ i → bytes_of_each (drop i xs) ≡ []
unfolding bytes_of_each
each_done xs i h = rw (drop_of_length-le xs h) refl
