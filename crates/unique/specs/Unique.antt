-- Uniqueness (01, "What the bench engineers must be able to rely on": "Uniqueness of the answer is itself proved"): of each host call, two
-- answers that meet its promise on the same inputs are equal, with the buffer afterwards where there is one. So too of each call of the
-- archives. The proofs are in proofs/One.antt.
use Rattle.std.specs.Prelude.{ℕ, ◌≡◌, List, Option, Result}
use Rattle.apply.specs.Machine.{Ground}
use Rattle.isa.specs.declared.Instruction.{Instruction}
use Rattle.opcode.specs.Decode.{Decodes}
use Rattle.session.specs.declared.Session.{Session}
use Rattle.session.specs.declared.Refusal.{Refusal}
use Rattle.session.specs.declared.Reply.{Reply}
use Rattle.running.specs.Call.{Runs}
use Rattle.service.specs.Answer.{Answers}
use Rattle.file.specs.declared.Reading.{Reading}
use Rattle.file.specs.declared.FileRefusal.{FileRefusal}
use Rattle.file.specs.Promises.{Writes, Reads}
use Rattle.records.specs.declared.SessionRecord.{SessionRecord}
use Rattle.records.specs.declared.ReplyRecord.{ReplyRecord}
use Rattle.records.specs.declared.WrittenRecord.{WrittenRecord}
use Rattle.records.specs.declared.ReadingRecord.{ReadingRecord}
use Rattle.numbered.specs.declared.DecodedRecord.{DecodedRecord}
use Rattle.qhobuziya_host.specs.Exports.{RunsRecord, AnswersRecord, WritesRecord, ReadsRecord}
use Rattle.qhobuziya_decode.specs.Exports.{DecodesRecord}

-- at most one answer meets the promise P
abbrev pub AtMostOne : {A : Type 0} → (A → Type 0) → Type 0
AtMostOne {A} P = (x y : A) → P x → P y → x ≡ y

-- run: the reply and the arena afterwards
abbrev pub RunUnique : Type 0
RunUnique =
    (g : Ground) (s : Session) (budget : ℕ) (arena : List ℕ)
    → AtMostOne (λ (x : Reply × List ℕ). Runs g s budget arena x.0 x.1)

-- answer
abbrev pub AnswerUnique : Type 0
AnswerUnique = (code : List ℕ) (s : Session) (value : ℕ) → AtMostOne (λ (r : Reply). Answers code s value r)

-- decode
abbrev pub DecodeUnique : Type 0
DecodeUnique = (word : ℕ) → AtMostOne (λ (d : Option Instruction). Decodes word d)

-- write: the reply and the buffer afterwards
abbrev pub WriteUnique : Type 0
WriteUnique = (s : Session) (buffer : List ℕ) → AtMostOne (λ (x : Result ℕ Refusal × List ℕ). Writes s buffer x.0 x.1)

-- read: session and offset, or refusal and offset
abbrev pub ReadUnique : Type 0
ReadUnique = (f : List ℕ) → AtMostOne (λ (r : Result Reading FileRefusal). Reads f r)

-- the archives: run, answer, decode, write, read
abbrev pub RunRecordUnique : Type 0
RunRecordUnique =
    (code : List ℕ) (offset len : ℕ) (came : SessionRecord) (budget : ℕ) (arena : List ℕ)
    → AtMostOne (λ (x : ReplyRecord × List ℕ). RunsRecord code offset len came budget arena x.0 x.1)

abbrev pub AnswerRecordUnique : Type 0
AnswerRecordUnique = (code : List ℕ) (came : SessionRecord) (value : ℕ) → AtMostOne (λ (r : ReplyRecord). AnswersRecord code came value r)

abbrev pub DecodeRecordUnique : Type 0
DecodeRecordUnique = (word : ℕ) → AtMostOne (λ (d : DecodedRecord). DecodesRecord word d)

abbrev pub WriteRecordUnique : Type 0
WriteRecordUnique = (came : SessionRecord) (buffer : List ℕ) → AtMostOne (λ (x : WrittenRecord × List ℕ). WritesRecord came buffer x.0 x.1)

abbrev pub ReadRecordUnique : Type 0
ReadRecordUnique = (f : List ℕ) → AtMostOne (λ (r : ReadingRecord). ReadsRecord f r)
