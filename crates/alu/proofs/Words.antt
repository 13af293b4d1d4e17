-- What a word form says of the low 32 bits, and what the code makes of the whole register, are the same. Assumes nothing.
use mathlib.Core.Path.{◌≡◌, sym, ap, ◌∙◌}
use Prim.Native.Nat.{ℕ, ◌+◌, ◌*◌, ◌%◌, ◌^◌}
use native.Mathlib.Nat.{add-mod, mod-add-mod}
use lib.Pow.{mod-mod-pow}
use Rattle.word.specs.Word.{low}
use Rattle.word.proofs.Shifts.{low_scaled}

-- a register shifted and a register added: the low word is the words'
pub word_scaled : (a b s : ℕ) → low 32 ((a * 2 ^ s % 2 ^ 64 + b) % 2 ^ 64) ≡ low 32 (low 32 a * 2 ^ s + low 32 b)
word_scaled a b s =
    mod-mod-pow (a * 2 ^ s % 2 ^ 64 + b) 32 32 ∙ add-mod (a * 2 ^ s % 2 ^ 64) b (2 ^ 32)
    ∙ ap (λ (i : ℕ). (i + low 32 b) % 2 ^ 32) (mod-mod-pow (a * 2 ^ s) 32 32 ∙ sym (low_scaled 32 a (2 ^ s)))
    ∙ mod-add-mod (low 32 a * 2 ^ s) (2 ^ 32) (low 32 b)
