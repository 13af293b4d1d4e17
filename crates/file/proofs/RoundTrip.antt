-- The two halves of the round trip, and that they make the promises.
use mathlib.Core.Path.{◌≡◌, refl, ap, ◌∙◌}
use mathlib.Core.Bool.{false}
use mathlib.Core.List.{List, ◌++◌}
use Prim.Native.Nat.{ℕ, ◌≤◌}
use lib.ListN.{length, drop, get_or}
use lib.Seq.{take-append_seam}
use borrow.Author.Tests.{eq-eqb, eqb-true, not-false, ltb-false, le-ltb}
use Rattle.byte_order.specs.Bytes.{AreBytes}
use Rattle.std.specs.Prelude.{Result, Ok, Err, IfOk}
use Rattle.session.specs.declared.Session.{Session}
use Rattle.session.specs.declared.Refusal.{Refusal}
use Rattle.refuse.specs.Refusals.{zero_due, verdict_of, refused_of}
use Rattle.refuse.proofs.Accepted.{Clear, all_clear}
use Rattle.file.specs.declared.FileRefusal.{FileRefusal}
use Rattle.file.specs.declared.Reading.{Reading}
use Rattle.session.specs.Fit.{Fit}
use Rattle.file.specs.Writing.{file_of, buffer_due, write_tests, write_judged, length_written, host_write_of}
use Rattle.file.specs.Reading.{host_read_of, number_read, offset_read, session_of_read, session_read}
use Rattle.file.specs.Promises.{ReadsBack, WritesBack, Writes, Reads, WrittenReadsBack, ReadWritesBack}
use Rattle.file.proofs.There.{file_read}
use Rattle.file.proofs.Back.{Kept, kept}

-- an accepted write has register 0 zero
zero_clear : (s : Session) → zero_due s ≡ false → get_or s.regs 0 0 ≡ 0
unfolding zero_due
zero_clear s e = eqb-true _ _ (not-false _ e)

-- and room
pub write_room : (s : Session) (buffer : List ℕ) → verdict_of (write_tests s (length buffer)) ≡ Ok tt → length (file_of s) ≤ length buffer
unfolding buffer_due
write_room s buffer e = ltb-false (length buffer) (length (file_of s)) (all_clear (write_tests s (length buffer)) e).1.0

-- and a write with register 0 zero and room is accepted
write_accepted : (s : Session) (buffer : List ℕ) → get_or s.regs 0 0 ≡ 0 → length (file_of s) ≤ length buffer
    → host_write_of s buffer ≡ (Ok (length (file_of s)), file_of s ++ drop (length (file_of s)) buffer)
unfolding host_write_of zero_due buffer_due
write_accepted s buffer z l = rw (eq-eqb (get_or s.regs 0 0) 0 z, le-ltb (length buffer) (length (file_of s)) l) refl

pub written_reads_back : WrittenReadsBack
unfolding host_write_of
written_reads_back s h buffer = go (verdict_of (write_tests s (length buffer))) (all_clear (write_tests s (length buffer)))
  where
    go : (v : Result (Unit {0}) Refusal) → (v ≡ Ok tt → Clear (write_tests s (length buffer)))
        → ReadsBack s (write_judged v s buffer).0 (write_judged v s buffer).1
    go (Ok x) c = rw (take-append_seam (file_of s) (drop (length (file_of s)) buffer)) (file_read s h (zero_clear s (c refl).0))
    go (Err r) c = tt

pub read_writes_back : ReadWritesBack
read_writes_back f h = go (host_read_of f) (kept f h)
  where
    go : (r : Result Reading FileRefusal) → IfOk r (λ x. Kept f x) → WritesBack f r
    go (Ok x) k = λ buffer l. rw k.file at (write_accepted x.session buffer k.zero (rw k.file l))
    go (Err e) k = tt

-- what a call that gives the definition's answer promises
writes : (s : Session) (buffer : List ℕ) (r : Result ℕ Refusal) (after : List ℕ) → Fit s → r ≡ (host_write_of s buffer).0 → after ≡ (host_write_of s buffer).1
    → Writes s buffer r after
writes s buffer r after h e g = record {
  reply = e;
  bytes = g;
  number = ap (λ (x : Result ℕ Refusal). refused_of x) e;
  length = ap length_written e;
  back = rw (e, g) (written_reads_back s h buffer);
}

-- the same from what the tests came to
pub by_verdict : (s : Session) (buffer : List ℕ) (v : Result (Unit {0}) Refusal) (r : Result ℕ Refusal) (after : List ℕ) → Fit s → verdict_of (write_tests s (length buffer)) ≡ v
    → r ≡ (write_judged v s buffer).0 → after ≡ (write_judged v s buffer).1 → Writes s buffer r after
unfolding host_write_of
by_verdict s buffer v r after h q e g = writes s buffer r after h (rw q e) (rw q g)

-- the session that a read's reply stands for is that of the file
said : (f : List ℕ) → session_of_read (host_read_of f) ≡ session_read f
said f = go (host_read_of f) refl
  where
    go : (r : Result Reading FileRefusal) → host_read_of f ≡ r → session_of_read (host_read_of f) ≡ session_read f
    go (Ok x) e = rw e refl
    go (Err x) e = rw e refl

pub reads : (f : List ℕ) (r : Result Reading FileRefusal) → AreBytes f → r ≡ host_read_of f → Reads f r
reads f r h e = record {
  reply = e;
  number = ap (λ (x : Result Reading FileRefusal). number_read x) e;
  session = ap session_of_read e ∙ said f;
  offset = ap offset_read e;
  whole = rw e (whole (host_read_of f) (kept f h));
  back = rw e (read_writes_back f h);
}
  where
    whole : (r : Result Reading FileRefusal) → IfOk r (λ x. Kept f x) → IfOk r (λ x. x.offset ≡ length f)
    whole (Ok x) k = k.whole
    whole (Err e) k = tt
