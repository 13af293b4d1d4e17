-- Refused calls, the file's length, and what an accepted write leaves alone.
use mathlib.Core.Path.{◌≡◌, refl, ◌∙◌}
use Prim.Native.Nat.{ℕ, ◌+◌, ◌-◌}
use native.Mathlib.Omega.{arith}
use lib.ListN.{length, drop, get_or}
use lib.Seq.{get_or-drop, get_or-append-add}
use Rattle.std.specs.Prelude.{Option, Some, None, Result, Ok, Err, IfErr}
use Rattle.session.specs.declared.Note.{Note}
use Rattle.session.specs.declared.Refusal.{Refusal}
use Rattle.refuse.specs.Refusals.{verdict_of}
use Rattle.file.specs.declared.FileRefusal.{FileRefusal}
use Rattle.file.specs.declared.Reading.{Reading}
use Rattle.file.specs.Writing.{file_of, write_tests, write_judged, length_written, host_write_of}
use Rattle.file.specs.Edges.{length_with, Meets, FileLengths, RefusedWrite, OnlyTheFirst, EveryValueReads, RefusedRead}
use Rattle.file.proofs.Lengths.{length_without, length_with_lem}
use Rattle.file.proofs.There.{file_read}
use Rattle.file.proofs.Back.{read_cases}

pub file_lengths : FileLengths
file_lengths s h = go s.note refl
  where
    go : (n : Option Note) → s.note ≡ n → length (file_of s) ≡ length_with n
    go None e = length_without s h.count e
    go (Some note) e = length_with_lem s note h.count e

pub refused_write : RefusedWrite
unfolding host_write_of
refused_write s buffer x = go (verdict_of (write_tests s (length buffer)))
  where
    go : (v : Result (Unit {0}) Refusal) → (write_judged v s buffer).0 ≡ Err x
        → (write_judged v s buffer ≡ (Err x, buffer)) × (length_written (write_judged v s buffer).0 ≡ 0)
    go (Ok n) e = let z : ◌≡◌ {A = ℕ} 0 1 = cc in absurd (omega arith)
    go (Err y) e = (rw e refl, refl)

pub only_the_first : OnlyTheFirst
unfolding host_write_of
only_the_first s h buffer i l = go (verdict_of (write_tests s (length buffer)))
  where
    go : (v : Result (Unit {0}) Refusal) → get_or (write_judged v s buffer).1 i 0 ≡ get_or buffer i 0
    go (Ok x) =
        let n : ℕ = length (file_of s) in
        let k : n + (i - n) ≡ i = omega (arith, file_lengths s h) in
        rw k at (get_or-append-add (file_of s) (drop n buffer) (i - n) 0 ∙ get_or-drop n buffer (i - n) 0)
    go (Err y) = refl

pub every_value_reads : EveryValueReads
every_value_reads = file_read

pub refused_read : RefusedRead
refused_read f h x at e =
    let met = read_cases (λ (r : Result Reading FileRefusal). IfErr r (λ y. Meets f y.refusal y.offset)) f h (λ r k. tt) (λ y o m. m) in
    (rw e refl, rw e at met)
