-- What the archive's calls promise: each equals the core's call on the unpacked records, for all inputs. The core's definitions are those
-- of `host::run`, `service::answer`, `writer::write` and `reader::read`.
use Rattle.std.specs.Prelude.{ℕ, ◌≡◌, List}
use Rattle.apply.specs.Machine.{Ground, ground_on}
use Rattle.running.specs.Call.{host_run_of}
use Rattle.service.specs.Answer.{host_answer_of}
use Rattle.file.specs.Writing.{host_write_of}
use Rattle.file.specs.Reading.{host_read_of}
use Rattle.records.specs.declared.SessionRecord.{SessionRecord}
use Rattle.records.specs.declared.ReplyRecord.{ReplyRecord}
use Rattle.records.specs.declared.WrittenRecord.{WrittenRecord}
use Rattle.records.specs.declared.ReadingRecord.{ReadingRecord}
use Rattle.records.specs.Records.{session_of, reply_of, written_of, reading_of}

-- What the run stands on, from the call's own arguments. "A window is an arena offset and a length"
abbrev pub ground_of : List ℕ → ℕ → ℕ → Ground
ground_of code offset len = ground_on code (record { start = record { 0 = offset }; len = len })

-- of its inputs, its reply r and the arena afterwards
pub record RunsRecord (code : List ℕ) (offset : ℕ) (len : ℕ) (came : SessionRecord) (budget : ℕ) (arena : List ℕ) (r : ReplyRecord) (after : List ℕ) : Type 0 where
  pub reply : r ≡ reply_of came (host_run_of (ground_of code offset len) (session_of came) budget arena).0
  pub bytes : after ≡ (host_run_of (ground_of code offset len) (session_of came) budget arena).1

pub record AnswersRecord (code : List ℕ) (came : SessionRecord) (value : ℕ) (r : ReplyRecord) : Type 0 where
  pub reply : r ≡ reply_of came (host_answer_of code (session_of came) value)

-- of its inputs, its reply r and the buffer afterwards
pub record WritesRecord (came : SessionRecord) (buffer : List ℕ) (r : WrittenRecord) (after : List ℕ) : Type 0 where
  pub reply : r ≡ written_of (host_write_of (session_of came) buffer).0
  pub bytes : after ≡ (host_write_of (session_of came) buffer).1

pub record ReadsRecord (f : List ℕ) (r : ReadingRecord) : Type 0 where
  pub reply : r ≡ reading_of (host_read_of f)
