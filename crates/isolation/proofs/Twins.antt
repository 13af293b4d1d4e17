-- Two windows with equal bytes, byte by byte: the form that the proofs go along, and its way to and from the form that the statements have.
use mathlib.Core.Path.{◌≡◌, sym, ap, subst, ◌∙◌}
use mathlib.Core.List.{List}
use Prim.Native.Nat.{ℕ, ◌+◌, ◌-◌, ◌<◌}
use native.Mathlib.Omega.{arith}
use lib.ListN.{length, get_or, drop, length-drop}
use lib.Seq.{length-take-le, get_or-take, get_or-drop, ext_get_or}
use Rattle.place.specs.declared.Window.{Window}
use Rattle.apply.specs.Machine.{Ended, with_arena}
use Rattle.session.specs.declared.Reply.{Reply}
use Rattle.running.specs.Run.{Went}
use Rattle.isolation.specs.Windows.{Fits, bytes_in, SameWindow}

pub record Twins (v : Window) (A : List ℕ) (w : Window) (B : List ℕ) : Type 0 where
  pub fits_a : Fits v A
  pub fits_b : Fits w B
  pub lengths : v.len ≡ w.len
  pub byte : (k : ℕ) → k < v.len → get_or A (v.start.0 + k) 0 ≡ get_or B (w.start.0 + k) 0

-- the second is the first with another arena, whose window is equal
abbrev pub SameStep : Window → Window → Ended → Ended → Type 0
SameStep v w x y = (B : List ℕ) × (y ≡ record { end = x.end; state = with_arena B x.state }) × Twins v x.state.arena w B

abbrev pub SameRun : Window → Window → Went → Went → Type 0
SameRun v w x y = (B : List ℕ) × (y ≡ record { stop = x.stop; steps = x.steps; state = with_arena B x.state }) × Twins v x.state.arena w B

-- what is done in the two arenas comes to the same, and the windows are equal after it
abbrev pub Same : Window → Window → Reply × List ℕ → Reply × List ℕ → Type 0
Same v w x y = (x.0 ≡ y.0) × Twins v x.1 w y.1

-- a byte of the window is the arena's
in_place : (w : Window) (arena : List ℕ) (k : ℕ) → k < w.len → get_or (bytes_in w arena) k 0 ≡ get_or arena (w.start.0 + k) 0
in_place w arena k h = get_or-take w.len (drop w.start.0 arena) k 0 h ∙ get_or-drop w.start.0 arena k 0

window_length : (w : Window) (arena : List ℕ) → Fits w arena → length (bytes_in w arena) ≡ w.len
window_length w arena f = length-take-le w.len (drop w.start.0 arena) (rw length-drop (omega arith))

pub twins : (v : Window) (A : List ℕ) (w : Window) (B : List ℕ) → SameWindow v A w B → Twins v A w B
twins v A w B s =
    record {
      fits_a = s.fits_a;
      fits_b = s.fits_b;
      lengths = s.lengths;
      byte =
          λ k h. sym (in_place v A k h) ∙ ap (λ (x : List ℕ). get_or x k 0) s.bytes ∙ in_place w B k (subst (λ (n : ℕ). k < n) s.lengths h);
    }

pub same_bytes : (v : Window) (A : List ℕ) (w : Window) (B : List ℕ) → Twins v A w B → bytes_in v A ≡ bytes_in w B
same_bytes v A w B t =
    let a = window_length v A t.fits_a in
    ext_get_or 0 (bytes_in v A) (bytes_in w B) (a ∙ t.lengths ∙ sym (window_length w B t.fits_b)) (λ k h. at k (subst (λ (n : ℕ). k < n) a h))
  where
    at : (k : ℕ) → k < v.len → get_or (bytes_in v A) k 0 ≡ get_or (bytes_in w B) k 0
    at k h = in_place v A k h ∙ t.byte k h ∙ sym (in_place w B k (subst (λ (n : ℕ). k < n) t.lengths h))

-- the two sides exchanged
pub turned : (v : Window) (A : List ℕ) (w : Window) (B : List ℕ) → Twins v A w B → Twins w B v A
turned v A w B t =
    record {
      fits_a = t.fits_b;
      fits_b = t.fits_a;
      lengths = sym t.lengths;
      byte = λ k h. sym (t.byte k (subst (λ (n : ℕ). k < n) (sym t.lengths) h));
    }
