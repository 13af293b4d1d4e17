-- No two rows have a word in common: a computed test over the table, and what it means. Assumes nothing.
use Rattle.std.specs.Prelude.{Some}
use mathlib.Core.Path.{◌≡◌, refl, sym, ap, ◌∙◌}
use Prim.Native.Nat.{ℕ, ◌+◌, ◌-◌, ◌/◌, ◌%◌, ◌^◌, ◌<◌, ◌≤◌}
use native.Mathlib.Omega.{arith}
use mathlib.Core.Bool.{Bool, true, false, cond, not, ◌&&◌, ◌||◌}
use mathlib.Core.List.{List, [], ◌∷◌}
use lib.Dec.{T, eqb, leb, eqb→eq, leb→le, T_not}
use lib.Pow.{shr-shr, field}
use Rattle.isa.specs.Format.{Place, values}
use Rattle.opcode.specs.Table.{Row}
use Rattle.opcode.specs.Families.{Entry, table}
use Rattle.opcode.specs.Decode.{has, decode_in}
use Rattle.isa.proofs.Places.{Agree, in_value, in_word, joins, and_l, and_r}
use Rattle.opcode.proofs.Narrow.{code_places, every, agrees, tested, or_else}

-- at two places that end at the same bit, the first from no higher bit on, two opcodes have other bits
abbrev differ : Place → ℕ → Place → ℕ → Bool
differ a c b d = eqb (a.size + a.at) (b.size + b.at) && (leb a.at b.at && not (eqb (in_value a c / 2 ^ (b.at - a.at)) (in_value b d)))

abbrev against : Place → ℕ → List Place → ℕ → Bool
against s c [] d = false
against s c (t ∷ ts) d = differ s c t d || (differ t d s c || against s c ts d)

abbrev clash : List Place → ℕ → List Place → ℕ → Bool
clash [] c ts d = false
clash (s ∷ ss) c ts d = against s c ts d || clash ss c ts d

-- two rows, and all rows of a list
abbrev pub apart2 : Row → Row → Bool
apart2 r s = clash (code_places r) r.code (code_places s) s.code

abbrev pub apart : List Entry → Bool
apart [] = true
apart (e ∷ es) = every (apart2 e.row) es && apart es

-- no two rows of the table overlap
pub rows_apart : T (apart table)
unfolding table
rows_apart = tt

-- a row whose opcode joins to one number
abbrev pub joined : Row → Bool
joined r = joins (code_places r)

-- ---- what it means

-- the upper bits of a longer place are a shorter one that ends at the same bit
upper_bits : (a b : Place) (w : ℕ) → a.size + a.at ≡ b.size + b.at → a.at ≤ b.at → in_word a w / 2 ^ (b.at - a.at) ≡ in_word b w
upper_bits a b w e l =
    let s : a.size ≡ b.size + (b.at - a.at) = omega arith in
    let p : a.at + (b.at - a.at) ≡ b.at = omega arith in
    ap (λ (n : ℕ). w / 2 ^ a.at % 2 ^ n / 2 ^ (b.at - a.at)) s ∙ field (w / 2 ^ a.at) b.size (b.at - a.at)
    ∙ ap (λ (n : ℕ). n % 2 ^ b.size) (shr-shr w a.at (b.at - a.at) ∙ ap (λ (n : ℕ). w / 2 ^ n) p)

module _ (c d w : ℕ) where
  not_both : (a b : Place) → in_value a c ≡ in_word a w → in_value b d ≡ in_word b w → T (differ a c b d) → ⊥
  not_both a b p q t =
      let u = and_r (eqb (a.size + a.at) (b.size + b.at)) _ t in
      T_not (eqb (in_value a c / 2 ^ (b.at - a.at)) (in_value b d)) (and_r (leb a.at b.at) _ u)
      (tested (ap (λ (n : ℕ). n / 2 ^ (b.at - a.at)) p ∙ upper_bits a b w (eqb→eq _ _ (and_l (eqb (a.size + a.at) (b.size + b.at)) _ t)) (leb→le _ _ (and_l (leb a.at b.at) _ u)) ∙ sym q))

module _ (c d w : ℕ) where
  not_against : (s : Place) → in_value s c ≡ in_word s w → (ts : List Place) → Agree ts d w → T (against s c ts d) → ⊥
  not_against s p [] g t = t
  not_against s p (u ∷ ts) g t =
      or_else (differ s c u d) (differ u d s c || against s c ts d) (not_both c d w s u p g.0)
      (or_else (differ u d s c) (against s c ts d) (not_both d c w u s g.0 p) (not_against s p ts g.1)) t

  not_clash : (ss : List Place) → Agree ss c w → (ts : List Place) → Agree ts d w → T (clash ss c ts d) → ⊥
  not_clash [] g ts h t = t
  not_clash (s ∷ ss) g ts h t = or_else (against s c ts d) (clash ss c ts d) (not_against s g.0 ts h) (not_clash ss g.1 ts h) t

-- a row of a list
pub data Has (e : Entry) : List Entry → Type 0 where
  here : {es : List Entry} → Has e (e ∷ es)
  there : {f : Entry} {es : List Entry} → Has e es → Has e (f ∷ es)

pub every_of : (p : Row → Bool) {e : Entry} {es : List Entry} → Has e es → T (every p es) → T (p e.row)
every_of p {e} (here {es = es}) t = and_l (p e.row) (every p es) t
every_of p (there {f = f} {es = es} h) t = every_of p h (and_r (p f.row) (every p es) t)

-- the row that has a word decodes it, wherever it stands
pub found : (w : ℕ) → w < 2 ^ 32 → {e : Entry} {es : List Entry} → Has e es → T (every joined es) → T (apart es) → has e.row w ≡ true → decode_in es w ≡ Some (e.make (values e.row.format w))
found w l {e} (here {es = es}) j t q = ap (λ (b : Bool). cond b (Some (e.make (values e.row.format w))) (decode_in es w)) q
found w l {e} (there {f = f} {es = es} h) j t q =
    ap (λ (b : Bool). cond b (Some (f.make (values f.row.format w))) (decode_in es w)) (other (has f.row w) refl)
    ∙ found w l h (and_r (joined f.row) (every joined es) j) (and_r (every (apart2 f.row) es) (apart es) t) q
  where
    other : (b : Bool) → has f.row w ≡ b → b ≡ false
    other true u =
        absurd
        (not_clash f.row.code e.row.code w (code_places f.row) (agrees w l f.row (and_l (joined f.row) (every joined es) j) u) (code_places e.row)
        (agrees w l e.row (every_of joined h (and_r (joined f.row) (every joined es) j)) q) (every_of (apart2 f.row) h (and_l (every (apart2 f.row) es) (apart es) t)))
    other false u = refl
