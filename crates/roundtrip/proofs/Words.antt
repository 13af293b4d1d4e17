-- A word and its parts, for every format: the word of some parts agrees with them at every place, and a word that agrees is that word.
-- Assumes nothing.
use mathlib.Core.Path.{◌≡◌, refl, sym, ap, ◌∙◌, subst}
use Prim.Native.Nat.{ℕ, zero, suc, ◌+◌, ◌*◌, ◌/◌, ◌%◌, ◌^◌, ◌<◌}
use native.Mathlib.Nat.{mod-lt}
use native.Mathlib.Omega.{arith}
use mathlib.Core.Bool.{Bool, true, false, cond}
use mathlib.Core.List.{List, [], ◌∷◌}
use lib.Arith.{digits_lt}
use lib.Dec.{lit<}
use lib.Pow.{pow_pos, pow-add, high, low, mod-pow-add, mod-mod-pow, field}
use borrow.Author.Tests.{eqb-true, eq-eqb}
use Rattle.isa.specs.Format.{Part, opcode, rd, rj, rk, imm, hint, lsb, msb, number, same, Piece, filled, places, word_of}
use Rattle.isa.proofs.Places.{Agree}

-- parts are told apart by their numbers
abbrev part : ℕ → Part
part zero = opcode
part (suc zero) = rd
part (suc (suc zero)) = rj
part (suc (suc (suc zero))) = rk
part (suc (suc (suc (suc zero)))) = imm
part (suc (suc (suc (suc (suc zero))))) = hint
part (suc (suc (suc (suc (suc (suc zero)))))) = lsb
part (suc (suc (suc (suc (suc (suc (suc n))))))) = msb

part_number : (p : Part) → part (number p) ≡ p
part_number opcode = refl
part_number rd = refl
part_number rj = refl
part_number rk = refl
part_number imm = refl
part_number hint = refl
part_number lsb = refl
part_number msb = refl

same_eq : (p q : Part) → same p q ≡ true → p ≡ q
same_eq p q e = sym (part_number p) ∙ ap part (eqb-true (number p) (number q) e) ∙ part_number q

same_refl : (p : Part) → same p p ≡ true
same_refl p = eq-eqb (number p) (number p) refl

-- a piece of a value
abbrev piece_of : Piece → ℕ → ℕ
piece_of p v = v / 2 ^ p.low % 2 ^ p.size

pub word_lt : (ps : List Piece) (x : Part → ℕ) → word_of ps x < 2 ^ filled ps
word_lt [] x = lit< tt
word_lt (p ∷ ps) x =
    subst (λ (n : ℕ). word_of (p ∷ ps) x < n) (sym (pow-add 2 p.size (filled ps)))
    (digits_lt (mod-lt (x p.part / 2 ^ p.low) (pow_pos p.size)) (word_lt ps x))

-- agreement at the places of the later pieces
later : (p : Piece) (ps : List Piece) (q : Part) (v w : ℕ) → Agree (places q (p ∷ ps)) v w → Agree (places q ps) v w
later p ps q v w g = by (same p.part q) g
  where
    by : (t : Bool) → Agree (cond t (record { at = filled ps; low = p.low; size = p.size } ∷ places q ps) (places q ps)) v w → Agree (places q ps) v w
    by true g = g.1
    by false g = g

-- and at the first one
now : (p : Piece) (ps : List Piece) (v w : ℕ) → Agree (places p.part (p ∷ ps)) v w → piece_of p v ≡ w / 2 ^ filled ps % 2 ^ p.size
now p ps v w g =
    (subst (λ (t : Bool). Agree (cond t (record { at = filled ps; low = p.low; size = p.size } ∷ places p.part ps) (places p.part ps)) v w) (same_refl p.part) g).0

-- a word that agrees with all parts is their word
pub agreed : (ps : List Piece) (x : Part → ℕ) (w : ℕ) → ((q : Part) → Agree (places q ps) (x q) w) → word_of ps x ≡ w % 2 ^ filled ps
agreed [] x w g = omega arith
agreed (p ∷ ps) x w g =
    (λ i. now p ps (x p.part) w (g p.part) i * 2 ^ filled ps + agreed ps x w (λ q. later p ps q (x q) w (g q)) i)
    ∙ sym (mod-pow-add w p.size (filled ps))

-- the word of some parts agrees with them
pub laid : (ps : List Piece) (x : Part → ℕ) (w : ℕ) → word_of ps x ≡ w % 2 ^ filled ps → (q : Part) → Agree (places q ps) (x q) w
laid [] x w e q = tt
laid (p ∷ ps) x w e q = by (same p.part q) refl (laid ps x w rest q)
  where
    first : piece_of p (x p.part) ≡ w / 2 ^ filled ps % 2 ^ p.size
    first = sym (high (piece_of p (x p.part)) (filled ps) (word_lt ps x)) ∙ ap (λ (n : ℕ). n / 2 ^ filled ps) e ∙ field w p.size (filled ps)

    rest : word_of ps x ≡ w % 2 ^ filled ps
    rest = sym (low (piece_of p (x p.part)) (filled ps) (word_lt ps x)) ∙ ap (λ (n : ℕ). n % 2 ^ filled ps) e ∙ mod-mod-pow w p.size (filled ps)

    by : (t : Bool) → same p.part q ≡ t → Agree (places q ps) (x q) w → Agree (cond t (record { at = filled ps; low = p.low; size = p.size } ∷ places q ps) (places q ps)) (x q) w
    by true s g = (ap (λ (r : Part). piece_of p (x r)) (sym (same_eq p.part q s)) ∙ first, g)
    by false s g = g
