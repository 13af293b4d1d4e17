-- What is put behind each other in a buffer is put as one, and at the front it stands before the rest.
use mathlib.Core.Path.{◌≡◌, refl, sym, ◌∙◌}
use mathlib.Core.List.{List, [], ◌∷◌, ◌++◌}
use Prim.Native.Nat.{ℕ, suc, ◌+◌, ◌≤◌}
use native.Mathlib.Nat.{add-zero, zero-add}
use native.Mathlib.Omega.{arith}
use lib.ListN.{length, drop, set}
use lib.Seq.{sets, sets-eq}

pub sets_append : (xs ys l : List ℕ) (i : ℕ) → sets l i (xs ++ ys) ≡ sets (sets l i xs) (i + length xs) ys
sets_append [] ys l i = rw add-zero refl
sets_append (x ∷ xs) ys l i =
    let e : i + suc (length xs) ≡ suc i + length xs = omega arith in
    rw e (sets_append xs ys (set l i x) (suc i))

-- of three buffers, each with more put behind what came before
pub joined : (xs ys l m n : List ℕ) (at p : ℕ) → p ≡ at + length xs → m ≡ sets l at xs → n ≡ sets m p ys → n ≡ sets l at (xs ++ ys)
joined xs ys l m n at p e f g = g ∙ rw (f, e) (sym (sets_append xs ys l at))

-- what is put at the front stands before the rest of the buffer
pub in_front : (xs m : List ℕ) → length xs ≤ length m → sets m 0 xs ≡ xs ++ drop (length xs) m
in_front xs m h = rw zero-add at (sets-eq xs m 0 (omega arith))
