-- One lemma, and a citation for each call.
use mathlib.Core.Path.{◌≡◌, refl, sym, ◌∙◌}
use Rattle.opcode.specs.Decode.{decode_of}
use Rattle.running.specs.Call.{host_run_of}
use Rattle.service.specs.Answer.{host_answer_of}
use Rattle.file.specs.Writing.{host_write_of}
use Rattle.file.specs.Reading.{host_read_of}
use Rattle.records.specs.Records.{session_of, reply_of, written_of, reading_of}
use Rattle.numbered.specs.Numbered.{numbered_of}
use Rattle.qhobuziya_host.specs.Exports.{ground_of}
use Rattle.unique.specs.Unique.{AtMostOne, RunUnique, AnswerUnique, DecodeUnique, WriteUnique, ReadUnique, RunRecordUnique, AnswerRecordUnique, DecodeRecordUnique, WriteRecordUnique, ReadRecordUnique}

-- what a promise says to be the definition's answer is one answer
determined : {A : Type 0} {P : A → Type 0} (d : A) → ((x : A) → P x → x ≡ d) → AtMostOne P
determined d same x y p q = same x p ∙ sym (same y q)

pub run_unique : RunUnique
run_unique g s budget arena = determined (host_run_of g s budget arena) (λ x p. rw (← p.reply, ← p.bytes) refl)

pub answer_unique : AnswerUnique
answer_unique code s value = determined (host_answer_of code s value) (λ r p. p.reply)

pub decode_unique : DecodeUnique
decode_unique word = determined (decode_of word) (λ d p. p)

pub write_unique : WriteUnique
write_unique s buffer = determined (host_write_of s buffer) (λ x p. rw (← p.reply, ← p.bytes) refl)

pub read_unique : ReadUnique
read_unique f = determined (host_read_of f) (λ r p. p.reply)

pub run_record_unique : RunRecordUnique
run_record_unique code offset len came budget arena =
    let ran = host_run_of (ground_of code offset len) (session_of came) budget arena in
    determined (reply_of came ran.0, ran.1) (λ x p. rw (← p.reply, ← p.bytes) refl)

pub answer_record_unique : AnswerRecordUnique
answer_record_unique code came value = determined (reply_of came (host_answer_of code (session_of came) value)) (λ r p. p.reply)

pub decode_record_unique : DecodeRecordUnique
decode_record_unique word = determined (numbered_of (decode_of word)) (λ d p. p)

pub write_record_unique : WriteRecordUnique
write_record_unique came buffer =
    let written = host_write_of (session_of came) buffer in
    determined (written_of written.0, written.1) (λ x p. rw (← p.reply, ← p.bytes) refl)

pub read_record_unique : ReadRecordUnique
read_record_unique f = determined (reading_of (host_read_of f)) (λ r p. p.reply)
