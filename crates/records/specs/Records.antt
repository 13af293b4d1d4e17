-- The records of the archive, and what they say. The note's presence is a number: 0 is absent, and every other one is present.
use Rattle.std.specs.Prelude.{ℕ, cond, eqb, Option, Some, None, Result, Ok, Err}
use Rattle.session.specs.declared.Note.{Note}
use Rattle.session.specs.declared.Session.{Session}
use Rattle.session.specs.declared.Reply.{Reply}
use Rattle.session.specs.declared.Refusal.{Refusal}
use Rattle.session.specs.Session.{note}
use Rattle.session.specs.Numbers.{numbers_of}
use Rattle.refuse.specs.Refusals.{refused_of}
use Rattle.file.specs.Writing.{length_written}
use Rattle.file.specs.Reading.{number_read, offset_read, session_of_read}
use Rattle.file.specs.declared.FileRefusal.{FileRefusal}
use Rattle.file.specs.declared.Reading.{Reading}
use Rattle.records.specs.declared.SessionRecord.{SessionRecord}
use Rattle.records.specs.declared.ReplyRecord.{ReplyRecord}
use Rattle.records.specs.declared.WrittenRecord.{WrittenRecord}
use Rattle.records.specs.declared.ReadingRecord.{ReadingRecord}

-- "a support note: 16 bytes, or absent and then without content"
abbrev pub note_of : ℕ → ℕ → ℕ → Option Note
note_of noted low high = cond (eqb noted 0) None (Some (note low high))

abbrev pub session_of : SessionRecord → Session
session_of r = record { regs = r.regs; pc = record { 0 = r.pc }; total = r.total; note = note_of r.noted r.low r.high }

abbrev pub noted_of : Option Note → ℕ
noted_of None = 0
noted_of (Some n) = 1

abbrev pub low_of : Option Note → ℕ
low_of None = 0
low_of (Some n) = n.low

abbrev pub high_of : Option Note → ℕ
high_of None = 0
high_of (Some n) = n.high

-- A session that goes out and comes back is the same (proofs/Back.antt, `there_and_back`).
abbrev pub record_of : Session → SessionRecord
record_of s =
    record { regs = s.regs; pc = s.pc.0; total = s.total; noted = noted_of s.note; low = low_of s.note; high = high_of s.note }

-- "What a refused call returns is the record that came, byte for byte", whatever the refusal (proofs/Back.antt, `refused_as_it_came`)
abbrev pub left_of : SessionRecord → ℕ → Session → SessionRecord
left_of came refused s = cond (eqb refused 0) (record_of s) came

abbrev pub reply_of : SessionRecord → Reply → ReplyRecord
reply_of came r =
    record {
      session = left_of came (numbers_of r.outcome).refused r.session;
      refused = (numbers_of r.outcome).refused;
      ecode = (numbers_of r.outcome).stop.ecode;
      subcode = (numbers_of r.outcome).stop.subcode;
      carried = (numbers_of r.outcome).stop.carried;
      steps = r.steps;
    }

-- a refused write has the length 0
abbrev pub written_of : Result ℕ Refusal → WrittenRecord
written_of w = record { refused = refused_of w; length = length_written w }

-- a refused read has the fresh session
abbrev pub reading_of : Result Reading FileRefusal → ReadingRecord
reading_of r = record { session = record_of (session_of_read r); refused = number_read r; offset = offset_read r }
