-- More that 01 says of the file, each of all inputs. The proofs are in proofs/Edges.antt.
use Rattle.std.specs.Prelude.{ℕ, ◌≤◌, ◌≡◌, List, length, get_or, Option, Some, None, Ok, Err}
use Rattle.byte_order.specs.Bytes.{AreBytes}
use Rattle.session.specs.declared.Note.{Note}
use Rattle.session.specs.declared.Session.{Session}
use Rattle.session.specs.declared.Refusal.{Refusal}
use Rattle.session.specs.Session.{fresh_of}
use Rattle.session.specs.Numbers.{number_of}
use Rattle.session.specs.Fit.{Fit}
use Rattle.file.specs.Writing.{file_of, length_written, host_write_of}
use Rattle.file.specs.Reading.{refused, host_read_of, session_read}

-- "So 268 bytes, or 285 with a note."
abbrev pub length_with : Option Note → ℕ
length_with None = 268
length_with (Some note) = 285

abbrev pub FileLengths : Type 0
FileLengths = (s : Session) → Fit s → length (file_of s) ≡ length_with s.note

-- "refused writes leave the buffer unchanged and return length 0"
abbrev pub RefusedWrite : Type 0
RefusedWrite =
    (s : Session) (buffer : List ℕ) (x : Refusal) → (host_write_of s buffer).0 ≡ Err x
    → (host_write_of s buffer ≡ (Err x, buffer)) × (length_written (host_write_of s buffer).0 ≡ 0)

-- "A longer buffer is written only in its first 268 or 285 bytes."
abbrev pub OnlyTheFirst : Type 0
OnlyTheFirst =
    (s : Session) → Fit s → (buffer : List ℕ) (i : ℕ) → length_with s.note ≤ i → get_or (host_write_of s buffer).1 i 0 ≡ get_or buffer i 0

-- Every value of pc, registers r1 to r31, total and note reads: no number in the file is refused.
abbrev pub EveryValueReads : Type 0
EveryValueReads =
    (s : Session) → Fit s → get_or s.regs 0 0 ≡ 0
    → host_read_of (file_of s) ≡ Ok (record { session = s; offset = length (file_of s) })

-- a refusal that reading can meet, 11 to 13, at an offset in the file or at its end
abbrev pub Meets : List ℕ → Refusal → ℕ → Type 0
Meets f x at = (11 ≤ number_of x) × (number_of x ≤ 13) × (at ≤ length f)

-- "A refused read returns the fresh session (all zero, no note)"
abbrev pub RefusedRead : Type 0
RefusedRead =
    (f : List ℕ) → AreBytes f → (x : Refusal) (at : ℕ) → host_read_of f ≡ refused x at
    → (session_read f ≡ fresh_of) × Meets f x at
