-- How long the file and its parts are, and what the note's part is.
use mathlib.Core.Path.{◌≡◌, refl}
use mathlib.Core.List.{List, [], ◌∷◌, ◌++◌}
use Prim.Native.Nat.{ℕ, ◌+◌, ◌*◌}
use native.Mathlib.Omega.{arith}
use lib.ListN.{length, drop, length-append, length-drop}
use Rattle.byte_order.specs.Bytes.{bytes_le}
use Rattle.byte_order.proofs.Stands.{length_bytes}
use Rattle.std.specs.Prelude.{Some, None}
use Rattle.session.specs.declared.Note.{Note}
use Rattle.session.specs.declared.Session.{Session}
use Rattle.file.specs.Format.{bytes_of_each, note_row}
use Rattle.file.specs.Writing.{part_bytes, file_of}

length_each : (xs : List ℕ) → length (bytes_of_each xs) ≡ 8 * length xs
unfolding bytes_of_each
length_each [] = refl
length_each (x ∷ xs) = rw (length-append (bytes_le 8 x) (bytes_of_each xs), length_bytes 8 x, length_each xs) (omega arith)

pub length_registers : (rs : List ℕ) → length rs ≡ 32 → length (bytes_of_each (drop 1 rs)) ≡ 248
length_registers rs h = rw (length_each (drop 1 rs), length-drop 1 rs, h) refl

-- the note's part
pub part_absent : (s : Session) → s.note ≡ None → part_bytes note_row s ≡ []
part_absent s e = rw e refl

pub part_present : (s : Session) (note : Note) → s.note ≡ Some note → part_bytes note_row s ≡ 4 ∷ (bytes_le 8 note.low ++ bytes_le 8 note.high)
unfolding bytes_le
part_present s note e = rw e refl

pub length_present : (s : Session) (note : Note) → s.note ≡ Some note → length (part_bytes note_row s) ≡ 17
unfolding bytes_le
length_present s note e = rw (part_present s note e) refl

pub length_file : (s : Session) → length s.regs ≡ 32 → length (file_of s) ≡ 268 + length (part_bytes note_row s)
unfolding file_of
length_file s h = simp (length-append, length_bytes, length_registers s.regs h) (omega arith)

-- "268 bytes, or 285 with a note"
pub length_without : (s : Session) → length s.regs ≡ 32 → s.note ≡ None → length (file_of s) ≡ 268
length_without s h e = rw (length_file s h, part_absent s e) refl

pub length_with_lem : (s : Session) (note : Note) → length s.regs ≡ 32 → s.note ≡ Some note → length (file_of s) ≡ 285
length_with_lem s note h e = rw (length_file s h, length_present s note e) refl
