-- What is written is read back.
use mathlib.Core.Path.{◌≡◌, refl, sym, ap, ◌∙◌}
use mathlib.Core.List.{List, [], ◌∷◌, ◌++◌, append_assoc}
use Prim.Native.Nat.{ℕ, suc, ◌+◌, ◌-◌, ◌^◌, ◌<◌}
use native.Mathlib.Nat.{add-zero, mod-eq_of_lt}
use native.Mathlib.Omega.{arith}
use lib.ListN.{length, drop, get_or, length-drop, length-append}
use lib.Seq.{get_or-drop, drop-cons}
use borrow.Author.Tests.{eqb-false, le-ltb}
use Rattle.byte_order.specs.Bytes.{get_le, bytes_le}
use Rattle.byte_order.proofs.Stands.{length_bytes, head_at, lt_at, past, read_at}
use Rattle.std.specs.Prelude.{Option, Some, None, Result, Ok}
use Rattle.session.specs.declared.Session.{Session}
use Rattle.session.specs.declared.Note.{Note}
use Rattle.session.specs.Session.{fresh_of}
use Rattle.file.specs.declared.Cursor.{Cursor}
use Rattle.file.specs.declared.FileRefusal.{FileRefusal}
use Rattle.session.specs.Fit.{Fit, NoteFit}
use Rattle.file.specs.Format.{Row, bytes_of_each, numbers_at, with_note, pc_row, registers_row, total_row, note_row, end_row}
use Rattle.file.specs.Writing.{part_bytes, file_of}
use Rattle.file.specs.Reading.{and_then, due_of, taken_of, row_of, ended_of, parsed_of, host_read_of}
use Rattle.file.proofs.Lengths.{length_registers, length_file}
use Rattle.file.proofs.Walk.{on, core_of, core_bytes, met, note_met, note_passed}

-- numbers that stand there are read
word_at : (v : ℕ) (f rest : List ℕ) (at : ℕ) → v < 2 ^ 64 → drop at f ≡ bytes_le 8 v ++ rest → get_le 8 at f ≡ v
word_at v f rest at h e = read_at 8 v f rest at e ∙ mod-eq_of_lt h

word_past : (v : ℕ) (f rest : List ℕ) (at : ℕ) → drop at f ≡ bytes_le 8 v ++ rest → drop (at + 8) f ≡ rest
word_past v f rest at e = past f at 8 (bytes_le 8 v) rest (length_bytes 8 v) e

numbers_at_lem : (xs f rest : List ℕ) (at : ℕ) → ((i : ℕ) → get_or xs i 0 < 2 ^ 64) → drop at f ≡ bytes_of_each xs ++ rest → numbers_at (length xs) at f ≡ xs
unfolding bytes_of_each numbers_at
numbers_at_lem [] f rest at h e = refl
numbers_at_lem (x ∷ xs) f rest at h e =
    let d : drop at f ≡ bytes_le 8 x ++ (bytes_of_each xs ++ rest) = e ∙ append_assoc (bytes_le 8 x) (bytes_of_each xs) rest in
    rw (word_at x f (bytes_of_each xs ++ rest) at (h 0) d, numbers_at_lem xs f rest (at + 8) (λ i. h (suc i)) (word_past x f (bytes_of_each xs ++ rest) at d)) refl

-- what holds where the part of a row with body xs stands at `at`, with `rest` behind it
record Standing (r : Row) (xs rest f : List ℕ) (at : ℕ) (t : Session) : Type 0 where
  step : and_then (taken_of r f t) (due_of r.kind r.len f at) ≡ Ok (on (at + 1 + r.len) (r.taken f (at + 1) t))
  body : drop (at + 1) f ≡ xs ++ rest
  behind : drop (at + 1 + r.len) f ≡ rest

standing : (r : Row) (xs rest f : List ℕ) (at : ℕ) (t : Session) → length xs ≡ r.len → drop at f ≡ r.kind ∷ (xs ++ rest) → Standing r xs rest f at t
standing r xs rest f at t l e =
    let body : drop (at + 1) f ≡ xs ++ rest = past f at 1 (r.kind ∷ []) (xs ++ rest) refl e in
    let whole : length f - at ≡ suc (length xs + length rest) = sym (length-drop at f) ∙ ap (λ x. length x) e ∙ ap suc (length-append xs rest) in
    record {
      step = ap (λ (p : Result ℕ FileRefusal). and_then (taken_of r f t) p) (met r.kind r.len f at (head_at f at r.kind (xs ++ rest) e) (omega (arith, whole, l)));
      body = body;
      behind = past f (at + 1) r.len xs rest l body;
    }

-- the note's part, or none, and another kind behind it
note_there : (n : Option Note) (t : Session) (f : List ℕ) (at k : ℕ) (rest : List ℕ) → NoteFit n → (k ≡ 4 → ⊥)
    → drop at f ≡ part_bytes note_row (with_note t n) ++ (k ∷ rest)
    → let q = at + length (part_bytes note_row (with_note t n)) in
    (row_of note_row f (on at (with_note t None)) ≡ Ok (on q (with_note t n))) × (drop q f ≡ k ∷ rest)
unfolding bytes_le
note_there None t f at k rest h x e =
    rw add-zero (note_passed f at (with_note t None) (λ y. x (sym (head_at f at k rest e) ∙ y)) (lt_at f at k rest e), e)
note_there (Some note) t f at k rest h x e =
    let s = standing note_row (bytes_le 8 note.low ++ bytes_le 8 note.high) (k ∷ rest) f at (with_note t None) refl e in
    let first : drop (at + 1) f ≡ bytes_le 8 note.low ++ (bytes_le 8 note.high ++ (k ∷ rest)) = s.body in
    let second : drop (at + 1 + 8) f ≡ bytes_le 8 note.high ++ (k ∷ rest) = word_past note.low f _ (at + 1) first in
    let q : at + 1 + 16 ≡ at + 17 = omega arith in
    let there = note_met f at (with_note t None) (head_at f at 4 _ e) (omega (arith, lt_at f (at + 1 + 16) k rest s.behind)) in (
      rw (q, word_at note.low f _ (at + 1) h.0 first, word_at note.high f _ (at + 1 + 8) h.1 second) at there,
      rw q at s.behind,
    )

-- a session that has the registers, the pc and the total of s, and its note
same : (s : Session) (regs : List ℕ) (pc total : ℕ) → regs ≡ s.regs → pc ≡ s.pc.0 → total ≡ s.total
    → ◌≡◌ {A = Session} (record { regs = regs; pc = record { 0 = pc }; total = total; note = s.note }) s
same s regs pc total e f g = rw (e, f, g) refl

-- register 0 is zero, and the others are read
registers_at : (s : Session) → Fit s → get_or s.regs 0 0 ≡ 0 → (f rest : List ℕ) (at : ℕ) → drop at f ≡ bytes_of_each (drop 1 s.regs) ++ rest
    → 0 ∷ numbers_at 31 at f ≡ s.regs
registers_at s h z f rest at e =
    let l : length (drop 1 s.regs) ≡ 31 = rw (length-drop 1 s.regs, h.count) refl in
    let r : numbers_at 31 at f ≡ drop 1 s.regs =
    rw l at (numbers_at_lem (drop 1 s.regs) f rest at (λ i. rw (get_or-drop 1 s.regs i 0) (h.regs (1 + i))) e) in
    rw r (ap (λ x. x ∷ drop 1 s.regs) (sym z) ∙ sym (drop-cons s.regs 0 0 (omega (arith, h.count))))

-- kinds 1 to 4 that stand at `at`, and another kind than the note's behind them
pub core_there : (s : Session) → Fit s → get_or s.regs 0 0 ≡ 0 → (f : List ℕ) (at k : ℕ) (rest : List ℕ) → (k ≡ 4 → ⊥)
    → drop at f ≡ core_bytes s (k ∷ rest)
    → let q = at + 1 + 8 + 1 + 248 + 1 + 8 + length (part_bytes note_row s) in
    (core_of f (Ok (on at fresh_of)) ≡ Ok (on q s)) × (drop q f ≡ k ∷ rest)
core_there s h z f at k rest x e =
    let p = standing pc_row (bytes_le 8 s.pc.0) _ f at fresh_of (length_bytes 8 s.pc.0) e in
    let t1 = pc_row.taken f (at + 1) fresh_of in
    let a = at + 1 + 8 in
    let r = standing registers_row (bytes_of_each (drop 1 s.regs)) _ f a t1 (length_registers s.regs h.count) p.behind in
    let t2 = registers_row.taken f (a + 1) t1 in
    let b = a + 1 + 248 in
    let t = standing total_row (bytes_le 8 s.total) _ f b t2 (length_bytes 8 s.total) r.behind in
    let t3 = total_row.taken f (b + 1) t2 in
    let n = note_there s.note t3 f (b + 1 + 8) k rest h.note x t.behind in
    let got =
    same s (0 ∷ numbers_at 31 (a + 1) f) (get_le 8 (at + 1) f) (get_le 8 (b + 1) f)
    (registers_at s h z f _ (a + 1) r.body) (word_at s.pc.0 f _ (at + 1) h.pc p.body) (word_at s.total f _ (b + 1) h.total t.body) in (
      ap (λ (y : Result Cursor FileRefusal). and_then (row_of note_row f) (and_then (row_of total_row f) (and_then (row_of registers_row f) y))) p.step
          ∙ ap (λ (y : Result Cursor FileRefusal). and_then (row_of note_row f) (and_then (row_of total_row f) y)) r.step
          ∙ ap (λ (y : Result Cursor FileRefusal). and_then (row_of note_row f) y) t.step
          ∙ n.0
          ∙ ap (λ (t : Session). Ok (on (b + 1 + 8 + length (part_bytes note_row s)) t)) got,
      n.1,
    )

-- nothing behind the file's end
ends : (f : List ℕ) (at : ℕ) (s : Session) → length f ≡ at → ended_of f (on at s) ≡ Ok (record { session = s; offset = length f })
unfolding ended_of
ends f at s e = rw (le-ltb at (length f) (omega arith), e) refl

-- the file of a session reads as that session
pub file_read : (s : Session) → Fit s → get_or s.regs 0 0 ≡ 0
    → host_read_of (file_of s) ≡ Ok (record { session = s; offset = length (file_of s) })
unfolding host_read_of parsed_of file_of
file_read s h z =
    let f = file_of s in
    let core = core_there s h z f 0 5 [] (eqb-false 5 4 refl) refl in
    let q = 267 + length (part_bytes note_row s) in
    let end = standing end_row [] [] f q s refl core.1 in
    let parsed = ap (λ (y : Result Cursor FileRefusal). and_then (row_of end_row f) y) core.0 ∙ end.step in
    ap (λ (y : Result Cursor FileRefusal). and_then (ended_of f) y) parsed ∙ ends f (q + 1 + 0) s (omega (arith, length_file s h.count))
