-- What is read is written back.
use mathlib.Core.Path.{◌≡◌, refl, sym, ap, ◌∙◌}
use mathlib.Core.Bool.{Bool, true, false, cond}
use mathlib.Core.List.{List, [], ◌∷◌, ◌++◌, append_assoc}
use Prim.Native.Nat.{ℕ, zero, suc, ◌+◌, ◌*◌, ◌≤◌, ◌<◌}
use native.Mathlib.Nat.{add-zero}
use native.Mathlib.Omega.{arith}
use lib.Dec.{ltb}
use lib.ListN.{length, drop, get_or, drop_of_length-le}
use lib.Seq.{drop-cons}
use borrow.Author.Tests.{ltb-false}
use Rattle.byte_order.specs.Bytes.{get_le, bytes_le, AreBytes}
use Rattle.byte_order.proofs.Stands.{bytes_at}
use Rattle.std.specs.Prelude.{Result, Ok, IfOk}
use Rattle.session.specs.declared.Session.{Session}
use Rattle.session.specs.declared.Refusal.{Refusal}
use Rattle.session.specs.declared.Refusal.TheVariants.{FileExtra}
use Rattle.session.specs.Session.{fresh_of}
use Rattle.file.specs.declared.Cursor.{Cursor}
use Rattle.file.specs.declared.FileRefusal.{FileRefusal}
use Rattle.file.specs.declared.Reading.{Reading}
use Rattle.file.specs.Format.{bytes_of_each, numbers_at, pc_row, registers_row, total_row, note_row, end_row}
use Rattle.file.specs.Writing.{part_bytes, file_of}
use Rattle.file.specs.Edges.{Meets}
use Rattle.file.specs.Reading.{refused, and_then, taken_of, row_of, stands, ended_of, parsed_of, host_read_of}
use Rattle.file.proofs.Lengths.{part_present}
use Rattle.file.proofs.Walk.{on, core_of, core_bytes, due_cases, note_cases}

-- numbers that were read have the bytes that stand there
numbers_back : (k : ℕ) (f : List ℕ) (at : ℕ) → AreBytes f → at + 8 * k ≤ length f → drop at f ≡ bytes_of_each (numbers_at k at f) ++ drop (at + 8 * k) f
unfolding bytes_of_each numbers_at
numbers_back zero f at h l = rw add-zero refl
numbers_back (suc k) f at h l =
    let z : at + 8 * suc k ≡ at + 8 + 8 * k = omega arith in
    rw z
    (bytes_at 8 f at h (omega arith)
    ∙ ap (λ r. bytes_le 8 (get_le 8 at f) ++ r) (numbers_back k f (at + 8) h (omega arith))
    ∙ sym (append_assoc (bytes_le 8 (get_le 8 at f)) (bytes_of_each (numbers_at k (at + 8) f)) (drop (at + 8 + 8 * k) f)))

-- a kind that stands there, and its body xs behind it
part_back : (k n : ℕ) (xs f : List ℕ) (at : ℕ) → get_or f at 0 ≡ k → at < length f → drop (at + 1) f ≡ xs ++ drop (at + 1 + n) f
    → drop at f ≡ (k ∷ xs) ++ drop (at + 1 + n) f
part_back k n xs f at e h b =
    let z : suc at ≡ at + 1 = omega arith in
    let first : drop at f ≡ get_or f at 0 ∷ drop (at + 1) f = rw z at (drop-cons f at 0 h) in
    first ∙ ap (λ x. x ∷ drop (at + 1) f) e ∙ ap (λ r. k ∷ r) b

-- the note's two numbers
note_back : (f : List ℕ) (at : ℕ) (s : Session) → AreBytes f → get_or f at 0 ≡ 4 → at + 1 + 16 ≤ length f
    → drop at f ≡ part_bytes note_row (note_row.taken f (at + 1) s) ++ drop (at + 1 + 16) f
note_back f at s h e l =
    let low = get_le 8 (at + 1) f in
    let high = get_le 8 (at + 1 + 8) f in
    let z : at + 1 + 8 + 8 ≡ at + 1 + 16 = omega arith in
    let body : drop (at + 1) f ≡ (bytes_le 8 low ++ bytes_le 8 high) ++ drop (at + 1 + 16) f =
    bytes_at 8 f (at + 1) h (omega arith)
    ∙ ap (λ r. bytes_le 8 low ++ r) (rw z at (bytes_at 8 f (at + 1 + 8) h (omega arith)))
    ∙ sym (append_assoc (bytes_le 8 low) (bytes_le 8 high) (drop (at + 1 + 16) f)) in
    rw (part_present (note_row.taken f (at + 1) s) (record { low = low; high = high }) refl) (part_back 4 16 (bytes_le 8 low ++ bytes_le 8 high) f at e (omega arith) body)

-- To show G of kinds 1 to 4, read from `at` on: show it of every session s whose parts stand there, and of every refusal.
pub core_cases : (G : Result Cursor FileRefusal → Type 0) (f : List ℕ) → AreBytes f → (at : ℕ)
    → ((s : Session) (q : ℕ) → get_or s.regs 0 0 ≡ 0
    → drop at f ≡ core_bytes s (drop q f) → G (Ok (on q s)))
    → ((x : Refusal) (o : ℕ) → Meets f x o → G (refused x o))
    → G (core_of f (Ok (on at fresh_of)))
unfolding stands
core_cases G f h at stood other =
    due_cases (λ (p : Result ℕ FileRefusal). G (and_then (row_of note_row f) (and_then (row_of total_row f) (and_then (row_of registers_row f) (and_then (taken_of pc_row f fresh_of) p))))) 1 8 f at
    (λ k1 l1. due_cases (λ (p : Result ℕ FileRefusal). G (and_then (row_of note_row f) (and_then (row_of total_row f) (and_then (taken_of registers_row f t1) p)))) 2 248 f a
    (λ k2 l2. due_cases (λ (p : Result ℕ FileRefusal). G (and_then (row_of note_row f) (and_then (taken_of total_row f t2) p))) 3 8 f b
    (λ k3 l3.
    let pc = part_back 1 8 (bytes_le 8 (get_le 8 (at + 1) f)) f at k1 (omega arith) (bytes_at 8 f (at + 1) h l1) in
    let registers = part_back 2 248 (bytes_of_each (numbers_at 31 (a + 1) f)) f a k2 (omega arith) (numbers_back 31 f (a + 1) h l2) in
    let total = part_back 3 8 (bytes_le 8 (get_le 8 (b + 1) f)) f b k3 (omega arith) (bytes_at 8 f (b + 1) h l3) in
    note_cases G f d t3
    (λ k4 l4. stood (note_row.taken f (d + 1) t3) (d + 1 + 16) refl (rw (pc, registers, total, note_back f d t3 h k4 l4) refl))
    (stood t3 d refl (rw (pc, registers, total) refl))
    other)
    other)
    other)
    other
  where
    a : ℕ
    a = at + 1 + 8

    b : ℕ
    b = a + 1 + 248

    d : ℕ
    d = b + 1 + 8

    t1 : Session
    t1 = pc_row.taken f (at + 1) fresh_of

    t2 : Session
    t2 = registers_row.taken f (a + 1) t1

    t3 : Session
    t3 = total_row.taken f (b + 1) t2

-- what an accepted reading r of f has: f is the session's file, and was read to its end
pub record Kept (f : List ℕ) (r : Reading) : Type 0 where
  pub file : file_of r.session ≡ f
  pub zero : get_or r.session.regs 0 0 ≡ 0
  pub whole : r.offset ≡ length f

-- the end mark, and nothing behind it
ended : (f : List ℕ) (s : Session) (q : ℕ) → get_or s.regs 0 0 ≡ 0
    → drop 0 f ≡ core_bytes s (drop q f)
    → get_or f q 0 ≡ 5 → q + 1 + 0 ≤ length f → length f ≤ q + 1 + 0
    → Kept f (record { session = s; offset = q + 1 + 0 })
unfolding file_of
ended f s q z e k l m =
    let last : drop q f ≡ (5 ∷ []) ++ drop (q + 1 + 0) f = part_back 5 0 [] f q k (omega arith) (rw add-zero refl) in
    let none : drop (q + 1 + 0) f ≡ [] = drop_of_length-le f m in
    record { file = sym (rw (last, none) at e); zero = z; whole = omega arith }

-- To show G of every reading: show it where f is the file of a session, read to its end, and of every refusal.
pub read_cases : (G : Result Reading FileRefusal → Type 0) (f : List ℕ) → AreBytes f → ((r : Reading) → Kept f r → G (Ok r))
    → ((x : Refusal) (o : ℕ) → Meets f x o → G (refused x o))
    → G (host_read_of f)
unfolding host_read_of parsed_of ended_of
read_cases G f h accepted other =
    core_cases (λ (c : Result Cursor FileRefusal). G (and_then (ended_of f) (and_then (row_of end_row f) c))) f h 0
    (λ s q z e. due_cases (λ (p : Result ℕ FileRefusal). G (and_then (ended_of f) (and_then (taken_of end_row f s) p))) 5 0 f q
    (λ k l. end s q z e k l (ltb (q + 1 + 0) (length f)) refl)
    other)
    other
  where
    end : (s : Session) (q : ℕ) → get_or s.regs 0 0 ≡ 0 → drop 0 f ≡ core_bytes s (drop q f)
        → get_or f q 0 ≡ 5 → q + 1 + 0 ≤ length f → (b : Bool) → ltb (q + 1 + 0) (length f) ≡ b
        → G (cond b (refused FileExtra (q + 1 + 0)) (Ok (record { session = s; offset = q + 1 + 0 })))
    end s q z e k l true x = other FileExtra (q + 1 + 0) (omega arith, omega arith, l)
    end s q z e k l false x = accepted _ (ended f s q z e k l (ltb-false _ _ x))

pub kept : (f : List ℕ) → AreBytes f → IfOk (host_read_of f) (λ r. Kept f r)
kept f h = read_cases (λ (r : Result Reading FileRefusal). IfOk r (λ x. Kept f x)) f h (λ r k. k) (λ x o m. tt)
