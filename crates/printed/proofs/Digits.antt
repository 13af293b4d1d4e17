-- How many digits there are, and the last of them.
use mathlib.Core.Path.{◌≡◌, refl, sym, ◌∙◌}
use mathlib.Core.Bool.{Bool, true, false}
use mathlib.Core.List.{[], ◌∷◌, ◌++◌}
use Prim.Native.Nat.{ℕ, zero, suc, ◌-◌, ◌*◌, ◌/◌, ◌%◌, ◌^◌, ◌≤◌, ◌<◌}
use native.Mathlib.Nat.{pow-succ'}
use native.Mathlib.Omega.{arith}
use lib.Dec.{ltb, lit<}
use borrow.Author.Tests.{lt-ltb, le-ltb}
use lib.ListN.{length, length-append}
use Rattle.printed.specs.Digits.{glyph_of, digits, places, decimal, hex16}

pub length_digits : (base k n : ℕ) → length (digits base k n) ≡ k
unfolding digits
length_digits base zero n = refl
length_digits base (suc k) n = length-append (digits base k (n / base)) _ ∙ rw (length_digits base k (n / base)) (omega arith)

-- the last digit, behind the others
pub digits_more : (base k n : ℕ) → 0 < k → digits base k n ≡ digits base (k - 1) (n / base) ++ glyph_of (n % base) ∷ []
unfolding digits
digits_more base zero n h = absurd (omega arith)
digits_more base (suc k) n h = let less : suc k - 1 ≡ k = omega arith in rw less refl

-- a division more than are needed changes nothing
places_more : (f n : ℕ) → n < 10 ^ suc f → places (suc f) n ≡ places f n
unfolding places
places_more zero n h = rw (lt-ltb n 10 h) refl
places_more (suc f) n h = rw (places_more f (n / 10) (omega (arith, h, pow-succ' 10 (suc f)))) refl

-- the last decimal digit, behind the others if there are any
pub decimal_more : (n : ℕ) → 10 ≤ n → n < 2 ^ 64 → decimal n ≡ decimal (n / 10) ++ glyph_of (n % 10) ∷ []
unfolding decimal places digits
decimal_more n h k =
    let most : 2 ^ 64 < 10 ^ 20 = lit< tt in
    rw (le-ltb n 10 h, sym (places_more 18 (n / 10) (omega (arith, k, most)))) refl

pub decimal_last : (n : ℕ) → n < 10 → decimal n ≡ glyph_of (n % 10) ∷ []
unfolding decimal places digits
decimal_last n h = rw (lt-ltb n 10 h) refl

-- a number below a power of ten has no more digits than the power says
places_most : (k t n : ℕ) → n < 10 ^ suc k → places t n ≤ suc k
unfolding places
places_most k zero n h = omega arith
places_most zero (suc t) n h = rw (lt-ltb n 10 h) (omega arith)
places_most (suc k) (suc t) n h =
    let p : 10 ^ suc (suc k) ≡ 10 * 10 ^ suc k = pow-succ' 10 (suc k) in
    let l : n / 10 < 10 ^ suc k = omega (arith, h, p) in
    by (ltb n 10) refl (places_most k t (n / 10) l)
  where
    by : (b : Bool) → ltb n 10 ≡ b → places t (n / 10) ≤ suc k → places (suc t) n ≤ suc (suc k)
    by true e m = rw e (omega arith)
    by false e m = rw e (omega (arith, m))

pub length_decimal : (k n : ℕ) → n < 10 ^ suc k → length (decimal n) ≤ suc k
unfolding decimal
length_decimal k n h = rw (length_digits 10 (places 19 n) n) (places_most k 19 n h)

pub length_hex : (n : ℕ) → length (hex16 n) ≡ 16
unfolding hex16
length_hex n = length_digits 16 16 n
