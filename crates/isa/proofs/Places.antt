-- What a word has at the places of a part: the part's value and the word agree there. For every list of places whose pieces join to one
-- number, which is a computed test. Assumes nothing.
use mathlib.Core.Path.{◌≡◌, refl, sym, ap, ◌∙◌, subst}
use Prim.Native.Nat.{ℕ, ◌+◌, ◌*◌, ◌/◌, ◌%◌, ◌^◌, ◌<◌}
use native.Mathlib.Nat.{mod-lt, mod-eq_of_lt, div-one, mul-one, zero-mul, zero-add, add-zero, add_comm}
use mathlib.Core.Bool.{Bool, true, false, ◌&&◌, ◌||◌}
use mathlib.Core.List.{List, [], ◌∷◌}
use native.Mathlib.Omega.{arith}
use lib.Arith.{digits_lt}
use lib.Dec.{T, eqb, eqb→eq, lit<}
use lib.Pow.{pow_pos, pow-add, high, low, recompose}
use Rattle.isa.specs.Format.{Place, gather, bits_at}

pub and_l : (a b : Bool) → T (a && b) → T a
and_l true b t = tt
and_l false b t = t

pub and_r : (a b : Bool) → T (a && b) → T b
and_r true b t = t
and_r false b t = absurd t

-- the bits of a value at a place, and those of a word
abbrev pub in_value : Place → ℕ → ℕ
in_value s v = v / 2 ^ s.low % 2 ^ s.size

abbrev pub in_word : Place → ℕ → ℕ
in_word s w = w / 2 ^ s.at % 2 ^ s.size

-- a value and a word have the same bits at all places
abbrev pub Agree : List Place → ℕ → ℕ → Type 0
Agree [] v w = Unit
Agree (s ∷ ss) v w = (in_value s v ≡ in_word s w) × Agree ss v w

-- the piece b lies right above the piece a, which is the lowest
abbrev pub above : Place → Place → Bool
above b a = eqb a.low 0 && eqb b.low a.size

-- no piece, the whole value, or its lower and its upper bits
abbrev pub joins : List Place → Bool
joins [] = true
joins (a ∷ []) = eqb a.low 0
joins (a ∷ b ∷ []) = above a b || above b a
joins (a ∷ b ∷ c ∷ ss) = false

in_word_lt : (s : Place) (w : ℕ) → in_word s w < 2 ^ s.size
in_word_lt s w = mod-lt (w / 2 ^ s.at) (pow_pos s.size)

-- a number of one piece
pub lone : (a : Place) (w : ℕ) → a.low ≡ 0 → gather (a ∷ []) w ≡ in_word a w
lone a w e = (λ i. in_word a w * 2 ^ (e i) + 0) ∙ add-zero (in_word a w * 1) ∙ mul-one (in_word a w)

-- a number of two pieces: the upper one's bits above the lower one's, in whichever order they stand
both : (a b : Place) (w : ℕ) → a.low ≡ 0 → b.low ≡ a.size → in_word a w * 2 ^ a.low + in_word b w * 2 ^ b.low ≡ in_word b w * 2 ^ a.size + in_word a w
both a b w e f =
    (λ i. in_word a w * 2 ^ (e i) + in_word b w * 2 ^ (f i)) ∙ ap (λ (x : ℕ). x + in_word b w * 2 ^ a.size) (mul-one (in_word a w))
    ∙ add_comm (in_word a w) _

-- the two orders of two pieces
pub either : (a b : Place) {X : Type 0} → T (joins (a ∷ b ∷ [])) → (T (above a b) → X) → (T (above b a) → X) → X
either a b {X} t f g = by (above a b) refl t
  where
    by : (x : Bool) → above a b ≡ x → T (x || above b a) → X
    by true p u = f (subst T (sym p) tt)
    by false p u = g u

pub lowest : (b a : Place) → T (above b a) → a.low ≡ 0
lowest b a t = eqb→eq a.low 0 (and_l (eqb a.low 0) _ t)

pub upper : (b a : Place) → T (above b a) → b.low ≡ a.size
upper b a t = eqb→eq b.low a.size (and_r (eqb a.low 0) _ t)

flat : (a b : Place) (w : ℕ) → gather (a ∷ b ∷ []) w ≡ in_word a w * 2 ^ a.low + in_word b w * 2 ^ b.low
flat a b w = ap (λ (x : ℕ). in_word a w * 2 ^ a.low + x) (add-zero _)

pub upper_first : (a b : Place) (w : ℕ) → T (above a b) → gather (a ∷ b ∷ []) w ≡ in_word a w * 2 ^ b.size + in_word b w
upper_first a b w t = flat a b w ∙ add_comm _ _ ∙ both b a w (lowest a b t) (upper a b t)

pub lower_first : (a b : Place) (w : ℕ) → T (above b a) → gather (a ∷ b ∷ []) w ≡ in_word b w * 2 ^ a.size + in_word a w
lower_first a b w t = flat a b w ∙ both a b w (lowest b a t) (upper b a t)

-- the lower piece of a number, and the upper one
lower_piece : (a : Place) (v x w : ℕ) → a.low ≡ 0 → v ≡ x * 2 ^ a.size + in_word a w → in_value a v ≡ in_word a w
lower_piece a v x w e q =
    (λ i. q i / 2 ^ (e i) % 2 ^ a.size) ∙ ap (λ (y : ℕ). y % 2 ^ a.size) (div-one _) ∙ low x a.size (in_word_lt a w)

upper_piece : (a b : Place) (v w : ℕ) → b.low ≡ a.size → v ≡ in_word b w * 2 ^ a.size + in_word a w → in_value b v ≡ in_word b w
upper_piece a b v w f q =
    (λ i. q i / 2 ^ (f i) % 2 ^ b.size) ∙ ap (λ (y : ℕ). y % 2 ^ b.size) (high (in_word b w) a.size (in_word_lt a w))
    ∙ mod-eq_of_lt (in_word_lt b w)

-- what is read at places that join agrees with the word
pub agree : (ss : List Place) (w : ℕ) → T (joins ss) → Agree ss (gather ss w) w
agree [] w t = tt
agree (a ∷ []) w t =
    let e : a.low ≡ 0 = eqb→eq a.low 0 t in
    let q : gather (a ∷ []) w ≡ 0 * 2 ^ a.size + in_word a w = lone a w e ∙ sym (ap (λ (x : ℕ). x + in_word a w) (zero-mul (2 ^ a.size)) ∙ zero-add (in_word a w)) in
    (lower_piece a (gather (a ∷ []) w) 0 w e q, tt)
agree (a ∷ b ∷ []) w t =
    let v = gather (a ∷ b ∷ []) w in
    either a b t
    (λ u. let q = upper_first a b w u in (upper_piece b a v w (upper a b u) q, (lower_piece b v (in_word a w) w (lowest a b u) q, tt)))
    (λ u. let q = lower_first a b w u in (lower_piece a v (in_word b w) w (lowest b a u) q, (upper_piece a b v w (upper b a u) q, tt)))
agree (a ∷ b ∷ c ∷ ss) w t = absurd t

-- a value that fits the places and agrees with the word is what is read there
joined : (lo hi : Place) (v w : ℕ) → T (above hi lo) → in_value hi v ≡ in_word hi w → in_value lo v ≡ in_word lo w → v < 2 ^ (hi.size + lo.size) → in_word hi w * 2 ^ lo.size + in_word lo w ≡ v
joined lo hi v w t h l f =
    sym (λ i. h i * 2 ^ lo.size + l i) ∙ (λ i. v / 2 ^ (upper hi lo t i) % 2 ^ hi.size * 2 ^ lo.size + v / 2 ^ (lowest hi lo t i) % 2 ^ lo.size)
    ∙ ap (λ (x : ℕ). v / 2 ^ lo.size % 2 ^ hi.size * 2 ^ lo.size + x % 2 ^ lo.size) (div-one v) ∙ recompose hi.size lo.size f

pub read_back : (ss : List Place) (v w : ℕ) → T (joins ss) → v < 2 ^ bits_at ss → Agree ss v w → gather ss w ≡ v
read_back [] v w t h g = omega arith
read_back (a ∷ []) v w t h g =
    let e : a.low ≡ 0 = eqb→eq a.low 0 t in
    lone a w e ∙ sym g.0 ∙ (λ i. v / 2 ^ (e i) % 2 ^ a.size) ∙ ap (λ (x : ℕ). x % 2 ^ a.size) (div-one v)
    ∙ mod-eq_of_lt (subst (λ (n : ℕ). v < 2 ^ n) (add-zero a.size) h)
read_back (a ∷ b ∷ []) v w t h g =
    let k : a.size + (b.size + 0) ≡ a.size + b.size = ap (λ (n : ℕ). a.size + n) (add-zero b.size) in
    either a b t
    (λ u. upper_first a b w u ∙ joined b a v w u g.0 g.1.0 (subst (λ (n : ℕ). v < 2 ^ n) k h))
    (λ u. lower_first a b w u ∙ joined a b v w u g.1.0 g.0 (subst (λ (n : ℕ). v < 2 ^ n) (k ∙ add_comm a.size b.size) h))
read_back (a ∷ b ∷ c ∷ ss) v w t h g = absurd t

-- what is read fits
two_lt : (lo hi : Place) (w : ℕ) → in_word hi w * 2 ^ lo.size + in_word lo w < 2 ^ (hi.size + lo.size)
two_lt lo hi w = subst (λ (n : ℕ). in_word hi w * 2 ^ lo.size + in_word lo w < n) (sym (pow-add 2 hi.size lo.size)) (digits_lt (in_word_lt hi w) (in_word_lt lo w))

pub gather_lt : (ss : List Place) (w : ℕ) → T (joins ss) → gather ss w < 2 ^ bits_at ss
gather_lt [] w t = lit< tt
gather_lt (a ∷ []) w t =
    let n : a.size ≡ a.size + 0 = sym (add-zero a.size) in
    subst (λ (x : ℕ). x < 2 ^ (a.size + 0)) (sym (lone a w (eqb→eq a.low 0 t))) (subst (λ (k : ℕ). in_word a w < 2 ^ k) n (in_word_lt a w))
gather_lt (a ∷ b ∷ []) w t =
    let k : a.size + b.size ≡ a.size + (b.size + 0) = ap (λ (n : ℕ). a.size + n) (sym (add-zero b.size)) in
    either a b t
    (λ u. subst (λ (x : ℕ). x < 2 ^ (a.size + (b.size + 0))) (sym (upper_first a b w u)) (subst (λ (n : ℕ). in_word a w * 2 ^ b.size + in_word b w < 2 ^ n) k (two_lt b a w)))
    (λ u. subst (λ (x : ℕ). x < 2 ^ (a.size + (b.size + 0))) (sym (lower_first a b w u)) (subst (λ (n : ℕ). in_word b w * 2 ^ a.size + in_word a w < 2 ^ n) (add_comm b.size a.size ∙ k) (two_lt a b w)))
gather_lt (a ∷ b ∷ c ∷ ss) w t = absurd t
