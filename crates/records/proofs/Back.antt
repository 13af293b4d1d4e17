-- What goes out in a record comes back, and what a refused call leaves.
use Rattle.std.proofs.Common.{ℕ, ◌≡◌, refl, Option, Some, None}
use Rattle.session.specs.declared.Note.{Note}
use Rattle.session.specs.declared.Session.{Session}
use Rattle.session.specs.declared.Refusal.{Refusal}
use Rattle.session.specs.declared.Outcome.{Outcome}
use Rattle.records.specs.declared.SessionRecord.{SessionRecord}
use Rattle.records.specs.Records.{note_of, session_of, noted_of, low_of, high_of, record_of, reply_of}

-- A session that goes out and comes back is the same.
pub note_back : (n : Option Note) → note_of (noted_of n) (low_of n) (high_of n) ≡ n
note_back None = refl
note_back (Some n) = refl

pub there_and_back : (s : Session) → session_of (record_of s) ≡ s
there_and_back s = rw (note_back s.note) refl

-- "What a refused call returns is the record that came, byte for byte", whatever the refusal
pub refused_as_it_came : (came : SessionRecord) (refusal : Refusal) (steps : ℕ) (s : Session) → (reply_of came (record { outcome = Outcome.Refused refusal; steps = steps; session = s })).session ≡ came
refused_as_it_came came Refusal.CodeLength steps s = refl
refused_as_it_came came Refusal.WindowLength steps s = refl
refused_as_it_came came Refusal.WindowPlace steps s = refl
refused_as_it_came came Refusal.ZeroRegister steps s = refl
refused_as_it_came came Refusal.Budget steps s = refl
refused_as_it_came came Refusal.Total steps s = refl
refused_as_it_came came Refusal.NoSyscall steps s = refl
refused_as_it_came came Refusal.FileKind steps s = refl
refused_as_it_came came Refusal.FileCut steps s = refl
refused_as_it_came came Refusal.FileExtra steps s = refl
refused_as_it_came came Refusal.BufferLength steps s = refl
