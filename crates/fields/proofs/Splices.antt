-- Parts of two numbers side by side: bytes picked, and a field put in. Assumes nothing.
use mathlib.Core.Path.{◌≡◌, sym, ap, ◌∙◌, subst}
use Prim.Native.Nat.{ℕ, ◌+◌, ◌-◌, ◌*◌, ◌/◌, ◌%◌, ◌^◌, ◌<◌, ◌≤◌}
use native.Mathlib.Omega.{arith}
use native.Mathlib.Nat.{mod-lt, mod-mod, mod-eq_of_lt, mod-add-mod, div-add-mod', add-zero}
use lib.Pow.{pow_pos, shl_exact, mod-mod-pow}
use borrow.Author.Tests.{le-leb}
use Rattle.word.specs.Word.{low, sext}
use Rattle.word.proofs.Shifts.{shl_low, joined_lt, top_lt}
use Rattle.word.proofs.Extends.{sext_same}
use Rattle.fields.specs.Field.{insert}

-- x's upper s digits below y's lower digits, in n digits
abbrev pub spliced : ℕ → ℕ → ℕ → ℕ → ℕ
spliced n s x y = low (n - s) y * 2 ^ s + low n x / 2 ^ (n - s)

module _ (n s x y : ℕ) (hs : s ≤ n) (hn : n ≤ 64) where
  under : low n x / 2 ^ (n - s) < 2 ^ s
  under = top_lt s (n - s) n (omega arith) (mod-lt x (pow_pos n))

  -- y shifted as far as 64 digits go
  pub splice_fits : y * 2 ^ s % 2 ^ 64 + low n x / 2 ^ (n - s) < 2 ^ 64
  splice_fits =
      subst (λ (i : ℕ). i + low n x / 2 ^ (n - s) < 2 ^ 64) (sym (shl_low y (64 - s) s 64 (omega arith)))
      (joined_lt (64 - s) s 64 (omega arith) (mod-lt y (pow_pos (64 - s))) under)

  -- of which the low n digits count
  pub splice_low : low n (y * 2 ^ s % 2 ^ 64 + low n x / 2 ^ (n - s)) ≡ spliced n s x y
  splice_low =
      let e : (64 - n) + n ≡ 64 = omega arith in
      sym (mod-add-mod (y * 2 ^ s % 2 ^ 64) (2 ^ n) (low n x / 2 ^ (n - s)))
      ∙ ap (λ (i : ℕ). (i + low n x / 2 ^ (n - s)) % 2 ^ n)
      (ap (λ (m : ℕ). y * 2 ^ s % 2 ^ m % 2 ^ n) (sym e) ∙ mod-mod-pow (y * 2 ^ s) (64 - n) n ∙ shl_low y (n - s) s n (omega arith))
      ∙ mod-eq_of_lt (joined_lt (n - s) s n (omega arith) (mod-lt y (pow_pos (n - s))) under)

-- of words, sign-extended
pub splice_word : (s x y : ℕ) → s ≤ 32 → sext 32 (y * 2 ^ s % 2 ^ 64 + low 32 x / 2 ^ (32 - s)) ≡ sext 32 (spliced 32 s x y)
splice_word s x y h =
    let r = y * 2 ^ s % 2 ^ 64 + low 32 x / 2 ^ (32 - s) in
    sext_same 32 r (spliced 32 s x y) (sym (mod-mod r (2 ^ 32)) ∙ ap (low 32) (splice_low 32 s x y h (omega arith)))

-- of registers
module _ (s x y : ℕ) (hs : s ≤ 64) (hx : x < 2 ^ 64) where
  own : y * 2 ^ s % 2 ^ 64 + low 64 x / 2 ^ (64 - s) ≡ y * 2 ^ s % 2 ^ 64 + x / 2 ^ (64 - s)
  own = ap (λ (i : ℕ). y * 2 ^ s % 2 ^ 64 + i / 2 ^ (64 - s)) (mod-eq_of_lt hx)

  pub double_fits : y * 2 ^ s % 2 ^ 64 + x / 2 ^ (64 - s) < 2 ^ 64
  double_fits = subst (λ (i : ℕ). i < 2 ^ 64) own (splice_fits 64 s x y hs (omega arith))

  pub splice_double : y * 2 ^ s % 2 ^ 64 + x / 2 ^ (64 - s) ≡ spliced 64 s x y
  splice_double = sym own ∙ sym (mod-eq_of_lt (splice_fits 64 s x y hs (omega arith))) ∙ splice_low 64 s x y hs (omega arith)

pub splice_none : (s x y : ℕ) → s ≡ 0 → x < 2 ^ 64 → y < 2 ^ 64 → y ≡ spliced 64 s x y
splice_none s x y e hx hy =
    let a : low 64 y * 2 ^ 0 ≡ y = omega arith in
    let b : low 64 x / 2 ^ 64 ≡ 0 = omega arith in
    sym (ap (λ (i : ℕ). spliced 64 i x y) e ∙ (λ i. a i + b i) ∙ add-zero y)

-- a field put in: what stands above it, itself, and what stands below it
module _ (x y m l : ℕ) (hm : m < 64) (hl : l ≤ m) (hx : x < 2 ^ 64) where
  above : x - low (m + 1) x ≡ x / 2 ^ (m + 1) * 2 ^ (m + 1)
  above = omega (arith, div-add-mod' x (2 ^ (m + 1)))

  middle : low (m + 1 - l) y * 2 ^ l % 2 ^ 64 ≡ low (m + 1 - l) y * 2 ^ l
  middle = shl_exact {a = low (m + 1 - l) y} (m + 1 - l) l 64 (mod-lt y (pow_pos (m + 1 - l))) (omega arith)

  under_lt : low (m + 1 - l) y * 2 ^ l + low l x < 2 ^ (m + 1)
  under_lt = joined_lt (m + 1 - l) l (m + 1) (omega arith) (mod-lt y (pow_pos (m + 1 - l))) (mod-lt x (pow_pos l))

  whole_lt : x / 2 ^ (m + 1) * 2 ^ (m + 1) + (low (m + 1 - l) y * 2 ^ l + low l x) < 2 ^ 64
  whole_lt = joined_lt (63 - m) (m + 1) 64 (omega arith) (top_lt (63 - m) (m + 1) 64 (omega arith) hx) under_lt

  sums : x - low (m + 1) x + low (m + 1 - l) y * 2 ^ l % 2 ^ 64 + low l x ≡ x / 2 ^ (m + 1) * 2 ^ (m + 1) + low (m + 1 - l) y * 2 ^ l + low l x
  sums = λ i. above i + middle i + low l x

  pub insert_fits : x - low (m + 1) x + low (m + 1 - l) y * 2 ^ l % 2 ^ 64 + low l x < 2 ^ 64
  insert_fits = omega (arith, sums, whole_lt)

  pub insert_is : x - low (m + 1) x + low (m + 1 - l) y * 2 ^ l % 2 ^ 64 + low l x ≡ insert x y m l
  insert_is = rw (le-leb l m hl) sums

pub ruleset picks = (splice_fits, splice_word, double_fits, splice_double, splice_none)

pub ruleset inserts = (insert_fits, insert_is)
