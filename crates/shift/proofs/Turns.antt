-- A number of n digits turned to the right by s: its low s digits go to the top.
use Rattle.std.proofs.Common.{◌≡◌, sym, ap, ◌∙◌, arith, ℕ, zero, suc, ◌+◌, ◌-◌, ◌*◌, ◌/◌, ◌%◌, ◌^◌, ◌<◌, ◌≤◌, mod-eq_of_lt, bit_or}
use Rattle.std.specs.Int.{rotate_right}
use Rattle.std.proofs.lemmas.Nat.{or_comm}
use Rattle.std.specs.Int.Bits.{or_self}
use native.Mathlib.Nat.{mod-mod, mod_self, mul-one}
use lib.Bits.{or_shifted}
use lib.Pow.{mod-mod-pow}
use mir.Syntax.{Width}
use mir.Val.{bits}
use Rattle.word.specs.Word.{low, sext}
use Rattle.word.proofs.Shifts.{shl_low, top_lt}
use Rattle.word.proofs.Extends.{sext_same}
use Rattle.shift.specs.Shift.{sll, rotr}

-- by s places: the low s digits stand above what is left of the number
joined : (n x s : ℕ) → s ≤ n → x < 2 ^ n → bit_or (x / 2 ^ s) (x * 2 ^ (n - s) % 2 ^ n) ≡ rotr n x s
joined n x s h below =
    let whole : s + (n - s) ≡ n = omega arith in
    let back : (n - s) + s ≡ n = omega arith in
    or_comm (x / 2 ^ s) (x * 2 ^ (n - s) % 2 ^ n) ∙ ap (λ (i : ℕ). bit_or i (x / 2 ^ s)) (shl_low x s (n - s) n whole)
    ∙ or_shifted (low s x) (n - s) (x / 2 ^ s) (top_lt (n - s) s n back below)
    ∙ ap (λ (i : ℕ). low s x * 2 ^ (n - s) + i / 2 ^ s) (sym (mod-eq_of_lt below))

-- by none: the number itself
not_turned : (n x : ℕ) → x < 2 ^ n → bit_or (x / 2 ^ 0) (x * 2 ^ 0 % 2 ^ n) ≡ rotr n x 0
not_turned n x below =
    let whole : x / 2 ^ 0 ≡ x = omega arith in
    let copy : x * 2 ^ 0 % 2 ^ n ≡ x = ap (λ (i : ℕ). i % 2 ^ n) (mul-one x) ∙ mod-eq_of_lt below in
    let sum : x ≡ 0 * 2 ^ (n - 0) + x / 2 ^ 0 = omega arith in
    let none : low 0 x ≡ 0 = omega arith in
    (λ i. bit_or (whole i) (copy i)) ∙ or_self x ∙ sum ∙ sym (λ i. none i * 2 ^ (n - 0) + mod-eq_of_lt below i / 2 ^ 0)

-- what the library's method gives at a width
pub turned : (w : Width) (x s : ℕ) → s < bits w → x < 2 ^ bits w → rotate_right w x s ≡ rotr (bits w) x s
turned w x zero h below =
    let kept : 0 % bits w ≡ 0 = mod-eq_of_lt h in
    let up : (bits w - 0) % bits w ≡ 0 = ap (λ (i : ℕ). i % bits w) (omega arith) ∙ mod_self (bits w) in
    rw (kept, up) (not_turned (bits w) x below)
turned w x (suc s) h below =
    let kept : suc s % bits w ≡ suc s = mod-eq_of_lt h in
    let up : (bits w - suc s) % bits w ≡ bits w - suc s = mod-eq_of_lt (omega arith) in
    rw (kept, up) (joined (bits w) x (suc s) (omega arith) below)

-- the low word turned is the word turned
pub low_turned : (x s : ℕ) → s < 32 → rotr 32 (low 32 x) s ≡ rotr 32 x s
low_turned x s h =
    let back : (32 - s) + s ≡ 32 = omega arith in
    let digits : low s (low 32 x) ≡ low s x = ap (λ (m : ℕ). x % 2 ^ m % 2 ^ s) (sym back) ∙ mod-mod-pow x (32 - s) s in
    λ i. digits i * 2 ^ (32 - s) + mod-mod x (2 ^ 32) i / 2 ^ s

-- a word shifted to the left
pub word_shifted : (x s : ℕ) → s < 32 → sext 32 (x * 2 ^ s % 2 ^ 64) ≡ sext 32 (sll 32 x s)
word_shifted x s h =
    let e : x * 2 ^ s % 2 ^ 32 ≡ sll 32 x s = shl_low x (32 - s) s 32 (omega arith) in
    sext_same 32 (x * 2 ^ s % 2 ^ 64) (sll 32 x s) (mod-mod-pow (x * 2 ^ s) 32 32 ∙ sym (mod-mod (x * 2 ^ s) (2 ^ 32)) ∙ ap (low 32) e)
