-- A list has every value of an enum without fields: a computed test, for any such enum. Assumes nothing.
use mathlib.Core.Path.{◌≡◌, refl, sym, ap, subst}
use mathlib.Core.Logic.{inl, inr}
use Prim.Native.Nat.{ℕ, suc, ◌+◌}
use native.Mathlib.Nat.{add-zero, zero-add}
use native.Mathlib.Omega.{arith}
use mathlib.Core.Bool.{Bool, true, false, ◌&&◌, ◌||◌}
use mathlib.Core.List.{List, [], ◌∷◌}
use lib.Dec.{T, eqb}
use borrow.Author.Tests.{eqb-true}
use denote.Struct.Field.{Field}
use denote.Enum.Declared.{Choice, Record, values_one}
use Rattle.isa.proofs.Places.{and_l, and_r}

pub data In {A : Type 0} (a : A) : List A → Type 0 where
  here : {xs : List A} → In a (a ∷ xs)
  there : {x : A} {xs : List A} → In a xs → In a (x ∷ xs)

-- no variant has a field
abbrev pub bare : List (List Field) → Bool
bare [] = true
bare ([] ∷ Fss) = bare Fss
bare ((F ∷ Fs) ∷ Fss) = false

abbrev pub position : (Fss : List (List Field)) → Choice Fss → ℕ
position [] c = absurd c
position (Fs ∷ Fss) (inl x) = 0
position (Fs ∷ Fss) (inr c) = suc (position Fss c)

position_one : (Fss : List (List Field)) → T (bare Fss) → (c d : Choice Fss) → position Fss c ≡ position Fss d → c ≡ d
position_one [] t c d e = absurd c
position_one ([] ∷ Fss) t (inl x) (inl y) e = refl
position_one ([] ∷ Fss) t (inl x) (inr d) e = absurd (no_zero e)
  where
    no_zero : {n : ℕ} → 0 ≡ suc n → ⊥
    no_zero h = omega arith
position_one ([] ∷ Fss) t (inr c) (inl y) e = absurd (no_suc e)
  where
    no_suc : {n : ℕ} → suc n ≡ 0 → ⊥
    no_suc h = omega arith
position_one ([] ∷ Fss) t (inr c) (inr d) e = ap inr (position_one Fss t c d (back e))
  where
    back : {m n : ℕ} → suc m ≡ suc n → m ≡ n
    back h = omega arith
position_one ((F ∷ Fs) ∷ Fss) t c d e = absurd t

module _ (N : Record) where
  abbrev pub place : N.D → ℕ
  place d = position N.parts (N.as_values d)

  abbrev pub listed : List N.D → ℕ → Bool
  listed [] n = false
  listed (x ∷ xs) n = eqb n (place x) || listed xs n

  -- every place from n on stands in the list
  abbrev pub lists : List N.D → List (List Field) → ℕ → Bool
  lists xs [] n = true
  lists xs (Fs ∷ Fss) n = listed xs n && lists xs Fss (suc n)

  listed_at : (xs : List N.D) (Fss : List (List Field)) (n : ℕ) → T (lists xs Fss n) → (c : Choice Fss) → T (listed xs (n + position Fss c))
  listed_at xs [] n t c = absurd c
  listed_at xs (Fs ∷ Fss) n t (inl x) = subst (λ (m : ℕ). T (listed xs m)) (sym (add-zero n)) (and_l (listed xs n) (lists xs Fss (suc n)) t)
  listed_at xs (Fs ∷ Fss) n t (inr c) =
      let e : suc n + position Fss c ≡ n + suc (position Fss c) = omega arith in
      subst (λ (m : ℕ). T (listed xs m)) e (listed_at xs Fss (suc n) (and_r (listed xs n) (lists xs Fss (suc n)) t) c)

  in_list : T (bare N.parts) → (xs : List N.D) (d : N.D) → T (listed xs (place d)) → In d xs
  in_list b [] d t = absurd t
  in_list b (x ∷ xs) d t = by (eqb (place d) (place x)) refl (in_list b xs d) t
    where
      by : (h : Bool) → eqb (place d) (place x) ≡ h → (T (listed xs (place d)) → In d xs) → T (h || listed xs (place d)) → In d (x ∷ xs)
      by true e later u =
          let q : d ≡ x = values_one N d x (position_one N.parts b (N.as_values d) (N.as_values x) (eqb-true (place d) (place x) e)) in
          subst (λ (y : N.D). In d (y ∷ xs)) q here
      by false e later u = there (later u)

  -- a list that has every place has every value
  pub enumerated : (xs : List N.D) → T (bare N.parts) → T (lists xs N.parts 0) → (d : N.D) → In d xs
  enumerated xs b t d = in_list b xs d (subst (λ (m : ℕ). T (listed xs m)) (zero-add (place d)) (listed_at xs N.parts 0 t (N.as_values d)))
