-- 01: "Reading meets 11, 12, 13 from left to right." "An accepted read returns the file's length as its offset. A refused read returns the
-- fresh session (all zero, no note) and an offset: of the kind byte for 11 or for a cut body, the file's length where a kind is due, the
-- first extra byte for 13."
use Rattle.std.specs.Prelude.{ℕ, ◌+◌, ◌≡◌, Bool, cond, not, ◌&&◌, List, [], ◌∷◌, eqb, ltb, leb, length, get_or, Result, Ok, Err}
use Rattle.session.specs.declared.Session.{Session}
use Rattle.session.specs.declared.Refusal.{Refusal}
use Rattle.session.specs.declared.Refusal.TheVariants.{FileKind, FileCut, FileExtra}
use Rattle.session.specs.Session.{fresh_of}
use Rattle.session.specs.Numbers.{number_of}
use Rattle.file.specs.declared.Cursor.{Cursor}
use Rattle.file.specs.declared.FileRefusal.{FileRefusal}
use Rattle.file.specs.declared.Reading.{Reading}
use Rattle.file.specs.Format.{Row, format}

-- refused at an offset
abbrev pub refused : {T : Type 0} → Refusal → ℕ → Result T FileRefusal
refused x at = Err (record { refusal = x; offset = at })

-- the first refusal is the one that is given
abbrev pub and_then : {T U : Type 0} → (T → Result U FileRefusal) → Result T FileRefusal → Result U FileRefusal
and_then next (Ok x) = next x
and_then next (Err e) = Err e

-- A kind is due at `at`, with a body of n bytes: 12 where the file ends, 11 at another kind, 12 at a cut body, or on to the body.
unfoldable pub due_of : ℕ → ℕ → List ℕ → ℕ → Result ℕ FileRefusal
due_of kind n f at =
    cond (leb (length f) at) (refused FileCut (length f))
    (cond (not (eqb (get_or f at 0) kind)) (refused FileKind at)
    (cond (ltb (length f) (at + 1 + n)) (refused FileCut at)
    (Ok (at + 1))))

-- what the body that stands from `at` on says is taken, and reading goes on behind it
abbrev pub taken_of : Row → List ℕ → Session → ℕ → Result Cursor FileRefusal
taken_of r f s at = Ok (record { at = at + r.len; session = r.taken f at s })

-- the kind stands where the next one is due
unfoldable pub stands : ℕ → List ℕ → ℕ → Bool
stands kind f at = ltb at (length f) && eqb (get_or f at 0) kind

-- an optional part that does not stand there is passed over
abbrev pub passed : Row → List ℕ → ℕ → Bool
passed r f at = r.optional && not (stands r.kind f at)

abbrev pub row_of : Row → List ℕ → Cursor → Result Cursor FileRefusal
row_of r f c = cond (passed r f c.at) (Ok c) (and_then (taken_of r f c.session) (due_of r.kind r.len f c.at))

-- a reader's cursor c went on to d by a row, or the reading was refused
abbrev pub Takes : Row → List ℕ → Cursor → Result (Unit {0}) FileRefusal → Cursor → Type 0
Takes r f c reply d = row_of r f c ≡ and_then (λ (done : Unit {0}). Ok d) reply

abbrev pub rows_of : List Row → List ℕ → Result Cursor FileRefusal → Result Cursor FileRefusal
rows_of [] f c = c
rows_of (r ∷ rs) f c = rows_of rs f (and_then (row_of r f) c)

-- 13: "reading: bytes after the end mark"; or the whole file was read
unfoldable pub ended_of : List ℕ → Cursor → Result Reading FileRefusal
ended_of f c = cond (ltb c.at (length f)) (refused FileExtra c.at) (Ok (record { session = c.session; offset = c.at }))

-- where reading begins, and where it comes to
abbrev pub start : Cursor
start = record { at = 0; session = fresh_of }

unfoldable pub parsed_of : List ℕ → Result Cursor FileRefusal
parsed_of f = rows_of format f (Ok start)

unfoldable pub host_read_of : List ℕ → Result Reading FileRefusal
host_read_of f = and_then (ended_of f) (parsed_of f)

-- What a read returns by 01's words, refused or not: its refusal's number, or 0; an offset; and a session.
abbrev pub number_read : Result Reading FileRefusal → ℕ
number_read (Ok r) = 0
number_read (Err e) = number_of e.refusal

abbrev pub offset_read : Result Reading FileRefusal → ℕ
offset_read (Ok r) = r.offset
offset_read (Err e) = e.offset

abbrev pub session_of_read : Result Reading FileRefusal → Session
session_of_read (Ok r) = r.session
session_of_read (Err e) = fresh_of

-- "A refused read returns the fresh session (all zero, no note)": of the file, which `Reads` ties to what a read returned
abbrev pub session_read : List ℕ → Session
session_read f = go (host_read_of f)
  where
    go : Result Reading FileRefusal → Session
    go (Ok r) = r.session
    go (Err e) = fresh_of
