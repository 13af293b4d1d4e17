-- Reading the table by a word's first bits: a word that begins so is decoded by the rows that begin so. Every step is a computed test over
-- the table, so that a row needs no proof of its own here. Assumes nothing.
use Rattle.std.specs.Prelude.{Option, Some, None}
use mathlib.Core.Path.{◌≡◌, refl, sym, ap, ◌∙◌, subst}
use Prim.Native.Nat.{ℕ, ◌+◌, ◌-◌, ◌*◌, ◌/◌, ◌%◌, ◌^◌, ◌<◌, ◌≤◌}
use native.Mathlib.Omega.{arith}
use native.Mathlib.Nat.{le_of_lt, add-zero, mod-eq_of_lt}
use mathlib.Core.Bool.{Bool, true, false, cond, ◌&&◌, ◌||◌}
use mathlib.Core.List.{List, [], ◌∷◌}
use lib.Dec.{T, eqb, leb, eqb→eq, leb→le, eqb_refl}
use lib.Pow.{shr-shr, shr_mod}
use mir.Syntax.{w32}
use mir.Val.{Fits}
use borrow.Author.Tests.{eqb-true, eqb-false, eq-eqb, ne_eqb, leb-true, leb-false}
use Rattle.isa.specs.Format.{opcode, Place, places, gather, values}
use Rattle.opcode.specs.Table.{Row}
use Rattle.opcode.specs.Families.{Entry, table}
use Rattle.opcode.specs.Decode.{has, decode_in, decode_of}
use Rattle.isa.specs.declared.Instruction.{Instruction}
use Rattle.isa.proofs.Places.{Agree, agree, in_value, joins, lone, and_l, and_r}

-- the places of a row's opcode
abbrev pub code_places : Row → List Place
code_places r = places opcode r.format.pieces

-- the first of them, and how the words of the row begin there
abbrev first : List Place → Place
first [] = record { at = 0; low = 0; size = 0 }
first (s ∷ ss) = s

abbrev pub start : Row → ℕ
start r = (first (code_places r)).at

abbrev pub front : Row → ℕ
front r = in_value (first (code_places r)) r.code

-- a row whose opcode joins to one number, and begins at bit 31
abbrev pub proper : Row → Bool
proper r = joins (code_places r) && eqb ((first (code_places r)).size + start r) 32

-- a row may have words w with w / 2 ^ m ≡ k
abbrev pub fits : ℕ → ℕ → Row → Bool
fits m k r = cond (leb (start r) m) (eqb (front r / 2 ^ (m - start r)) k) (eqb (k / 2 ^ (start r - m)) (front r))

-- the rows that may
abbrev pub under : ℕ → ℕ → List Entry → List Entry
under m k [] = []
under m k (e ∷ es) = cond (fits m k e.row) (e ∷ under m k es) (under m k es)

abbrev pub every : (Row → Bool) → List Entry → Bool
every p [] = true
every p (e ∷ es) = p e.row && every p es

pub both_l : (a b : Bool) → a && b ≡ true → a ≡ true
both_l true b e = refl
both_l false b e = e

pub tested : {x y : ℕ} → x ≡ y → T (eqb x y)
tested {x} e = subst (λ (y : ℕ). T (eqb x y)) e (eqb_refl x)

-- the first bits of the first bits
shorter : (w a b : ℕ) → a ≤ b → w / 2 ^ a / 2 ^ (b - a) ≡ w / 2 ^ b
shorter w a b l = let e : a + (b - a) ≡ b = omega arith in shr-shr w a (b - a) ∙ ap (λ (n : ℕ). w / 2 ^ n) e

-- ---- tests over rows

-- how the words of a row begin, down to bit n
abbrev pub key : ℕ → Row → ℕ
key n r = front r / 2 ^ (n - start r)

abbrev pub without : ℕ → List ℕ → List ℕ
without k [] = []
without k (x ∷ xs) = cond (eqb x k) (without k xs) (x ∷ without k xs)

-- all such beginnings, each once
abbrev pub keys : ℕ → List Entry → List ℕ
keys n [] = []
keys n (e ∷ es) = key n e.row ∷ without (key n e.row) (keys n es)

abbrev pub member : ℕ → List ℕ → Bool
member x [] = false
member x (k ∷ ks) = eqb x k || member x ks

-- the opcode is k, and is all that stands from bit n up
abbrev pub wholly : ℕ → ℕ → Row → List Place → Bool
wholly n k r [] = false
wholly n k r (s ∷ []) = eqb s.low 0 && (eqb s.at n && (eqb (s.size + n) 32 && eqb k r.code))
wholly n k r (s ∷ t ∷ ss) = false

-- no row is left, or one
abbrev pub leafs : ℕ → ℕ → List Entry → Bool
leafs n k [] = true
leafs n k (e ∷ []) = wholly n k e.row (code_places e.row)
leafs n k (e ∷ f ∷ es) = false

-- what it makes of a word that has its opcode
abbrev pub leaf_of : List Entry → ℕ → Option Instruction
leaf_of [] w = None
leaf_of (e ∷ []) w = cond (e.row.format.allows (values e.row.format w)) (Some (e.make (values e.row.format w))) None
leaf_of (e ∷ f ∷ es) w = None

-- a number is none of the keys, as the last arm of a `match` knows it
abbrev pub Misses : Type 0 → List ℕ → ℕ → Type 0
Misses P [] x = P
Misses P (k ∷ ks) x = Misses (P × (x ≡ k → ⊥)) ks x

pub or_else : (a b : Bool) {X : Type 0} → (T a → X) → (T b → X) → T (a || b) → X
or_else true b f g t = f tt
or_else false b f g t = g t

missed : {P : Type 0} (ks : List ℕ) (x : ℕ) → Misses P ks x → P × (T (member x ks) → ⊥)
missed [] x p = (p, λ t. t)
missed {P} (k ∷ ks) x p = let r = missed {P = P × (x ≡ k → ⊥)} ks x p in (r.0.0, or_else (eqb x k) (member x ks) (λ t. r.0.1 (eqb→eq x k t)) r.1)

-- a row whose words begin with one of the keys
abbrev pub among : ℕ → List ℕ → Row → Bool
among n ks r = proper r && (leb (start r) n && member (key n r) ks)

-- ---- laws

begins : (ss : List Place) (c w : ℕ) → Agree ss c w → T (eqb ((first ss).size + (first ss).at) 32) → w < 2 ^ 32 → w / 2 ^ (first ss).at ≡ in_value (first ss) c
begins [] c w g t h = absurd t
begins (s ∷ ss) c w g t h =
    let e : s.size + s.at ≡ 32 = eqb→eq _ 32 t in
    sym (g.0 ∙ shr_mod s.size s.at (subst (λ (n : ℕ). w < 2 ^ n) (sym e) h))

module _ (w : ℕ) (h : w < 2 ^ 32) where
  -- the words of a row agree with its opcode
  pub agrees : (r : Row) → T (joins (code_places r)) → has r w ≡ true → Agree (code_places r) r.code w
  agrees r t e =
      subst (λ (x : ℕ). Agree (code_places r) x w) (eqb-true _ _ (both_l (eqb (values r.format w opcode) r.code) _ e)) (agree (code_places r) w t)

  -- and begin as it does
  starts : (r : Row) → T (proper r) → has r w ≡ true → w / 2 ^ (start r) ≡ front r
  starts r t e = begins (code_places r) r.code w (agrees r (and_l (joins (code_places r)) _ t) e) (and_r (joins (code_places r)) _ t) h

  -- so does a longer or a shorter beginning
  pub begun : (r : Row) (m : ℕ) → T (proper r) → has r w ≡ true → T (fits m (w / 2 ^ m) r)
  begun r m t e = by (leb (start r) m) refl
    where
      by : (x : Bool) → leb (start r) m ≡ x → T (cond x (eqb (front r / 2 ^ (m - start r)) (w / 2 ^ m)) (eqb (w / 2 ^ m / 2 ^ (start r - m)) (front r)))
      by true q = tested (ap (λ (x : ℕ). x / 2 ^ (m - start r)) (sym (starts r t e)) ∙ shorter w (start r) m (leb-true (start r) m q))
      by false q = tested (shorter w m (start r) (le_of_lt (leb-false (start r) m q)) ∙ starts r t e)

  -- a word is decoded by the rows that begin as it does
  narrow_in : (m k : ℕ) → w / 2 ^ m ≡ k → (es : List Entry) → T (every proper es) → decode_in es w ≡ decode_in (under m k es) w
  narrow_in m k q [] t = refl
  narrow_in m k q (e ∷ es) t = by (fits m k e.row) refl (narrow_in m k q es (and_r (proper e.row) _ t))
    where
      not_had : (x : Bool) → fits m k e.row ≡ false → has e.row w ≡ x → x ≡ false
      not_had true p u = absurd (subst T p (subst (λ (n : ℕ). T (fits m n e.row)) q (begun e.row m (and_l (proper e.row) _ t) u)))
      not_had false p u = refl

      by : (x : Bool) → fits m k e.row ≡ x → decode_in es w ≡ decode_in (under m k es) w → decode_in (e ∷ es) w ≡ decode_in (cond x (e ∷ under m k es) (under m k es)) w
      by true p ih = ap (cond (has e.row w) (Some (e.make (values e.row.format w)))) ih
      by false p ih = ap (λ (x : Bool). cond x (Some (e.make (values e.row.format w))) (decode_in es w)) (not_had (has e.row w) p refl) ∙ ih

  none_in : (n : ℕ) (ks : List ℕ) → (T (member (w / 2 ^ n) ks) → ⊥) → (es : List Entry) → T (every (among n ks) es) → decode_in es w ≡ None
  none_in n ks off [] t = refl
  none_in n ks off (e ∷ es) t =
      ap (λ (x : Bool). cond x (Some (e.make (values e.row.format w))) (decode_in es w)) (not_had (has e.row w) refl)
      ∙ none_in n ks off es (and_r (among n ks e.row) _ t)
    where
      here : T (among n ks e.row)
      here = and_l (among n ks e.row) _ t

      later : T (leb (start e.row) n && member (key n e.row) ks)
      later = and_r (proper e.row) _ here

      not_had : (x : Bool) → has e.row w ≡ x → x ≡ false
      not_had true u =
          let l : start e.row ≤ n = leb→le _ _ (and_l (leb (start e.row) n) _ later) in
          let q : key n e.row ≡ w / 2 ^ n = ap (λ (x : ℕ). x / 2 ^ (n - start e.row)) (sym (starts e.row (and_l (proper e.row) _ here) u)) ∙ shorter w (start e.row) n l in
          absurd (off (subst (λ (x : ℕ). T (member x ks)) q (and_r (leb (start e.row) n) _ later)))
      not_had false u = refl

  has_code : (n k : ℕ) → w / 2 ^ n ≡ k → (r : Row) (ss : List Place) → T (wholly n k r ss) → gather ss w ≡ r.code
  has_code n k q r [] t = absurd t
  has_code n k q r (s ∷ []) t =
      let a = and_r (eqb s.low 0) _ t in
      let b = and_r (eqb s.at n) _ a in
      let e : s.at ≡ n = eqb→eq _ n (and_l (eqb s.at n) _ a) in
      let z : s.size + n ≡ 32 = eqb→eq _ 32 (and_l (eqb (s.size + n) 32) _ b) in
      lone s w (eqb→eq _ 0 (and_l (eqb s.low 0) _ t)) ∙ ap (λ (x : ℕ). w / 2 ^ x % 2 ^ s.size) e
      ∙ shr_mod s.size n (subst (λ (x : ℕ). w < 2 ^ x) (sym z) h) ∙ q ∙ eqb→eq k r.code (and_r (eqb (s.size + n) 32) _ b)
  has_code n k q r (s ∷ u ∷ ss) t = absurd t

  leaf_in : (n k : ℕ) → w / 2 ^ n ≡ k → (es : List Entry) → T (leafs n k es) → decode_in es w ≡ leaf_of es w
  leaf_in n k q [] t = refl
  leaf_in n k q (e ∷ []) t =
      ap (λ (x : Bool). cond (x && e.row.format.allows (values e.row.format w)) (Some (e.make (values e.row.format w))) None)
      (eq-eqb (values e.row.format w opcode) e.row.code (has_code n k q e.row (code_places e.row) t))
  leaf_in n k q (e ∷ f ∷ es) t = absurd t

-- a last bit is 0 or 1
pub last_bit : (x : ℕ) {X : Type 0} → (x % 2 ≡ 0 → X) → (x % 2 ≡ 1 → X) → X
last_bit x {X} f g = by (leb 1 (x % 2)) refl
  where
    by : (t : Bool) → leb 1 (x % 2) ≡ t → X
    by true e = let l : 1 ≤ x % 2 = leb-true 1 (x % 2) e in g (omega arith)
    by false e = let l : x % 2 < 1 = leb-false 1 (x % 2) e in f (omega arith)

-- a number by its half and its last bit
halved : (x b : ℕ) {k : ℕ} → x / 2 ≡ k → x % 2 ≡ b → x ≡ k * 2 + b
halved x b h e = omega arith

-- ASRT's opcode: its first bits are known, and the low five decide
pub ends_zero : (w : ℕ) {k : ℕ} → w / 2 ^ 15 ≡ k → k < 2 ^ 17 → eqb (w / 2 ^ 15 % 2 ^ 17 * 2 ^ 5 + (w / 2 ^ 0 % 2 ^ 5 * 2 ^ 0 + 0)) (k * 2 ^ 5) && true ≡ eqb (w % 2 ^ 5) 0
ends_zero w {k} q l = by (eqb (w % 2 ^ 5) 0) refl
  where
    low : w / 2 ^ 0 % 2 ^ 5 * 2 ^ 0 + 0 ≡ w % 2 ^ 5
    low = omega arith

    by : (t : Bool) → eqb (w % 2 ^ 5) 0 ≡ t → eqb (w / 2 ^ 15 % 2 ^ 17 * 2 ^ 5 + (w / 2 ^ 0 % 2 ^ 5 * 2 ^ 0 + 0)) (k * 2 ^ 5) && true ≡ t
    by true e = let z : w % 2 ^ 5 ≡ 0 = eqb-true _ 0 e in ap (λ (b : Bool). b && true) (eq-eqb _ (k * 2 ^ 5) (rw (low, z, q, mod-eq_of_lt l) (add-zero _)))
    by false e = ap (λ (b : Bool). b && true) (ne_eqb _ (k * 2 ^ 5) (λ u. eqb-false (w % 2 ^ 5) 0 e (omega arith)))

-- a word has 32 bits
pub zero_high : {w : ℕ} → Fits w32 w → w / 2 ^ 32 ≡ 0
zero_high {w} f = let h : w < 2 ^ 32 = f.fits in omega arith

-- ---- the table

rows_proper : T (every proper table)
unfolding table
rows_proper = tt

module _ {w : ℕ} (f : Fits w32 w) where
  h : w < 2 ^ 32
  h = f.fits

  -- a word that begins with k is decoded by the rows that may begin so
  pub narrow : (m : ℕ) {k : ℕ} → w / 2 ^ m ≡ k → decode_of w ≡ decode_in (under m k table) w
  unfolding decode_of
  narrow m {k} q = narrow_in w h m k q table rows_proper

  -- an arm: all of the opcode is known
  pub leaf : (n : ℕ) {k : ℕ} → w / 2 ^ n ≡ k → T (leafs n k (under n k table)) → leaf_of (under n k table) w ≡ decode_of w
  leaf n {k} q t = sym (narrow n q ∙ leaf_in w h n k q (under n k table) t)

  -- the last arm: of the words that begin with k, only those have a row that begin with one of the keys; the arms stand in the table's order
  pub rest : (m n : ℕ) {k : ℕ} → w / 2 ^ m ≡ k → Misses Unit (keys n (under m k table)) (w / 2 ^ n) → T (every (among n (keys n (under m k table))) (under m k table)) → None ≡ decode_of w
  rest m n {k} q p t = sym (narrow m q ∙ none_in w h n (keys n (under m k table)) (missed {P = Unit} (keys n (under m k table)) (w / 2 ^ n) p).1 (under m k table) t)

  -- an arm of which one more bit decides
  pub bit : (n : ℕ) {k : ℕ} → w / 2 ^ (n + 1) ≡ k → T (leafs n (k * 2 + 1) (under n (k * 2 + 1) table)) → T (leafs n (k * 2) (under n (k * 2) table))
      → cond (eqb (w / 2 ^ n % 2) 1) (leaf_of (under n (k * 2 + 1) table) w) (leaf_of (under n (k * 2) table) w) ≡ decode_of w
  bit n {k} q s t = by (eqb (w / 2 ^ n % 2) 1) refl
    where
      half : w / 2 ^ n / 2 ≡ k
      half = shr-shr w n 1 ∙ q

      by : (x : Bool) → eqb (w / 2 ^ n % 2) 1 ≡ x → cond x (leaf_of (under n (k * 2 + 1) table) w) (leaf_of (under n (k * 2) table) w) ≡ decode_of w
      by true e = leaf n (halved (w / 2 ^ n) 1 half (eqb-true _ 1 e)) s
      by false e = leaf n (halved (w / 2 ^ n) 0 half (last_bit (w / 2 ^ n) (λ z. z) (λ o. absurd (eqb-false _ 1 e o))) ∙ add-zero (k * 2)) t
