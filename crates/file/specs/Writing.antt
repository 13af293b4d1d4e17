-- 01: "Writing tests 4, then 14." "refused writes leave the buffer unchanged and return length 0, accepted ones the file's length." "A longer
-- buffer is written only in its first 268 or 285 bytes."
use Rattle.std.specs.Prelude.{ℕ, Bool, cond, ◌&&◌, List, [], ◌∷◌, ◌++◌, eqb, ltb, length, drop, Result, Ok, Err}
use Rattle.session.specs.declared.Session.{Session}
use Rattle.session.specs.declared.Refusal.{Refusal}
use Rattle.session.specs.declared.Refusal.TheVariants.{ZeroRegister, BufferLength}
use Rattle.refuse.specs.Refusals.{zero_due, Test, test, verdict_of}
use Rattle.file.specs.Format.{Row, format}

-- an optional part is left out where the session has no body for it
abbrev pub left_out : Row → Session → Bool
left_out r s = r.optional && eqb (length (r.body s)) 0

-- "One byte of kind, then a body"
abbrev pub part_bytes : Row → Session → List ℕ
part_bytes r s = cond (left_out r s) [] (r.kind ∷ r.body s)

abbrev pub rows_bytes : List Row → Session → List ℕ
rows_bytes [] s = []
rows_bytes (r ∷ rs) s = part_bytes r s ++ rows_bytes rs s

-- the file of a session
unfoldable pub file_of : Session → List ℕ
file_of s = rows_bytes format s

-- 14: "writing: the buffer is too short"
unfoldable pub buffer_due : Session → ℕ → Bool
buffer_due s room = ltb room (length (file_of s))

-- "Writing tests 4, then 14." (proofs/Order.antt, `write_order`)
abbrev pub write_tests : Session → ℕ → List Test
write_tests s room = test ZeroRegister (zero_due s) ∷ test BufferLength (buffer_due s room) ∷ []

abbrev pub write_judged : Result (Unit {0}) Refusal → Session → List ℕ → Result ℕ Refusal × List ℕ
write_judged (Ok x) s buffer = (Ok (length (file_of s)), file_of s ++ drop (length (file_of s)) buffer)
write_judged (Err r) s buffer = (Err r, buffer)

-- "refused writes .. return length 0, accepted ones the file's length"
abbrev pub length_written : Result ℕ Refusal → ℕ
length_written (Ok len) = len
length_written (Err r) = 0

unfoldable pub host_write_of : Session → List ℕ → Result ℕ Refusal × List ℕ
host_write_of s buffer = write_judged (verdict_of (write_tests s (length buffer))) s buffer
