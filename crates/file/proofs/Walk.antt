-- The reader's walk: where it goes on, and the ways in which it can turn out.
use mathlib.Core.Path.{◌≡◌, refl}
use mathlib.Core.Bool.{Bool, true, false, cond, not}
use mathlib.Core.List.{List, ◌++◌}
use Prim.Native.Nat.{ℕ, ◌+◌, ◌≤◌, ◌<◌}
use native.Mathlib.Omega.{arith}
use lib.Dec.{eqb, ltb, leb}
use lib.ListN.{length, get_or}
use borrow.Author.Tests.{eqb-true, leb-false, ltb-false, eq-eqb, ne_eqb, lt-ltb, le-ltb, lt-leb}
use Rattle.std.specs.Prelude.{Result, Ok, IfOk}
use Rattle.session.specs.declared.Session.{Session}
use Rattle.session.specs.declared.Refusal.{Refusal}
use Rattle.session.specs.declared.Refusal.TheVariants.{FileKind, FileCut}
use Rattle.file.specs.declared.Cursor.{Cursor}
use Rattle.file.specs.declared.FileRefusal.{FileRefusal}
use Rattle.file.specs.Format.{pc_row, registers_row, total_row, note_row}
use Rattle.file.specs.Writing.{part_bytes}
use Rattle.file.specs.Edges.{Meets}
use Rattle.file.specs.Reading.{refused, and_then, due_of, taken_of, stands, row_of}

-- the cursor is at `at`
abbrev pub on : ℕ → Session → Cursor
on at s = record { at = at; session = s }

-- kinds 1 to 4, read one after the other; and written, with more behind them
abbrev pub core_of : List ℕ → Result Cursor FileRefusal → Result Cursor FileRefusal
core_of f c = and_then (row_of note_row f) (and_then (row_of total_row f) (and_then (row_of registers_row f) (and_then (row_of pc_row f) c)))

abbrev pub core_bytes : Session → List ℕ → List ℕ
core_bytes s rest = part_bytes pc_row s ++ (part_bytes registers_row s ++ (part_bytes total_row s ++ (part_bytes note_row s ++ rest)))

-- a part that stands there is met
pub met : (k n : ℕ) (f : List ℕ) (at : ℕ) → get_or f at 0 ≡ k → at + 1 + n ≤ length f → due_of k n f at ≡ Ok (at + 1)
unfolding due_of
met k n f at e h = rw (lt-leb (length f) at (omega arith), eq-eqb (get_or f at 0) k e, le-ltb (length f) (at + 1 + n) h) refl

-- to show G of a part that is due: show it where the part stands there, and of every refusal
pub due_cases : (G : Result ℕ FileRefusal → Type 0) (k n : ℕ) (f : List ℕ) (at : ℕ)
    → (get_or f at 0 ≡ k → at + 1 + n ≤ length f → G (Ok (at + 1))) → ((x : Refusal) (o : ℕ) → Meets f x o → G (refused x o))
    → G (due_of k n f at)
unfolding due_of
due_cases G k n f at stood other = go (leb (length f) at) (eqb (get_or f at 0) k) (ltb (length f) (at + 1 + n)) refl refl refl
  where
    go : (a b c : Bool) → leb (length f) at ≡ a → eqb (get_or f at 0) k ≡ b → ltb (length f) (at + 1 + n) ≡ c
        → G (cond a (refused FileCut (length f)) (cond (not b) (refused FileKind at) (cond c (refused FileCut at) (Ok (at + 1)))))
    go true b c w x y = other FileCut (length f) (omega arith, omega arith, omega arith)
    go false false c w x y = other FileKind at (omega arith, omega arith, omega (arith, leb-false (length f) at w))
    go false true true w x y = other FileCut at (omega arith, omega arith, omega (arith, leb-false (length f) at w))
    go false true false w x y = stood (eqb-true _ _ x) (ltb-false _ _ y)

-- the note: it stands there, or another kind does
pub note_met : (f : List ℕ) (at : ℕ) (t : Session) → get_or f at 0 ≡ 4 → at + 1 + 16 ≤ length f
    → row_of note_row f (on at t) ≡ Ok (on (at + 1 + 16) (note_row.taken f (at + 1) t))
unfolding stands
note_met f at t e h = rw (lt-ltb at (length f) (omega arith), eq-eqb (get_or f at 0) 4 e, met 4 16 f at e h) refl

pub note_passed : (f : List ℕ) (at : ℕ) (t : Session) → (get_or f at 0 ≡ 4 → ⊥) → at < length f → row_of note_row f (on at t) ≡ Ok (on at t)
unfolding stands
note_passed f at t e h = rw (lt-ltb at (length f) h, ne_eqb (get_or f at 0) 4 e) refl

-- to show G of the note's row: show it where the note stands there, where it is passed over, and of every refusal
pub note_cases : (G : Result Cursor FileRefusal → Type 0) (f : List ℕ) (at : ℕ) (t : Session)
    → (get_or f at 0 ≡ 4 → at + 1 + 16 ≤ length f → G (Ok (on (at + 1 + 16) (note_row.taken f (at + 1) t))))
    → G (Ok (on at t))
    → ((x : Refusal) (o : ℕ) → Meets f x o → G (refused x o))
    → G (row_of note_row f (on at t))
note_cases G f at t stood other not_there = go (stands 4 f at)
  where
    go : (b : Bool) → G (cond (not b) (Ok (on at t)) (and_then (taken_of note_row f t) (due_of 4 16 f at)))
    go true = due_cases (λ (p : Result ℕ FileRefusal). G (and_then (taken_of note_row f t) p)) 4 16 f at stood not_there
    go false = other

-- a body that was met lies in the file
pub inside : (k n : ℕ) (f : List ℕ) (at : ℕ) → IfOk (due_of k n f at) (λ body. body + n ≤ length f)
inside k n f at = due_cases (λ (p : Result ℕ FileRefusal). IfOk p (λ body. body + n ≤ length f)) k n f at (λ k l. l) (λ x o m. tt)
