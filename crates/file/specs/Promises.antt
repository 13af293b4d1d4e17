-- What `writer::write` and `reader::read` promise, for all inputs; and demand 2 on the file in its two halves, as theorems about the
-- definitions: a paused session that is written out reads back the same, and a file that is read writes back to the same bytes. The proofs
-- are in proofs/RoundTrip.antt.
use Rattle.std.specs.Prelude.{ℕ, ◌≤◌, ◌≡◌, List, ◌++◌, length, take, drop, Result, Ok, IfOk}
use Rattle.byte_order.specs.Bytes.{AreBytes}
use Rattle.session.specs.declared.Session.{Session}
use Rattle.session.specs.declared.Refusal.{Refusal}
use Rattle.refuse.specs.Refusals.{refused_of}
use Rattle.file.specs.declared.FileRefusal.{FileRefusal}
use Rattle.file.specs.declared.Reading.{Reading}
use Rattle.session.specs.Fit.{Fit}
use Rattle.file.specs.Writing.{length_written, host_write_of}
use Rattle.file.specs.Reading.{host_read_of, number_read, offset_read, session_of_read, session_read}

-- of a write that returned r and left `after` in the buffer: if it was accepted, the bytes that it wrote read as s
abbrev pub ReadsBack : Session → Result ℕ Refusal → List ℕ → Type 0
ReadsBack s r after = IfOk r (λ len. host_read_of (take len after) ≡ Ok (record { session = s; offset = len }))

-- of a read of f that returned r: if it was accepted, writing its session into any buffer that is long enough gives f's length, f's bytes
-- first, and the rest of the buffer as it was
abbrev pub WritesBack : List ℕ → Result Reading FileRefusal → Type 0
WritesBack f r =
    IfOk r (λ x. (buffer : List ℕ) → length f ≤ length buffer → host_write_of x.session buffer ≡ (Ok (length f), f ++ drop (length f) buffer))

-- The promise of `writer::write`: of its inputs, its reply r and the buffer afterwards
pub record Writes (s : Session) (buffer : List ℕ) (r : Result ℕ Refusal) (after : List ℕ) : Type 0 where
  -- the length, or the refusal
  pub reply : r ≡ (host_write_of s buffer).0
  -- every byte of the buffer
  pub bytes : after ≡ (host_write_of s buffer).1
  -- by 01's numbers: the refusal's, or 0
  pub number : refused_of r ≡ refused_of (host_write_of s buffer).0
  -- the length, 0 if refused
  pub length : length_written r ≡ length_written (host_write_of s buffer).0
  pub back : ReadsBack s r after

-- The promise of `reader::read`: of the file and its reply r
pub record Reads (f : List ℕ) (r : Result Reading FileRefusal) : Type 0 where
  -- session and offset, or refusal and offset
  pub reply : r ≡ host_read_of f
  -- by 01's numbers: the refusal's, or 0
  pub number : number_read r ≡ number_read (host_read_of f)
  -- the session, the fresh one if refused, and the offset
  pub session : session_of_read r ≡ session_read f
  pub offset : offset_read r ≡ offset_read (host_read_of f)
  -- "An accepted read returns the file's length as its offset."
  pub whole : IfOk r (λ x. x.offset ≡ length f)
  pub back : WritesBack f r

-- The theorems. A session of 64-bit numbers and a file of bytes: so is whatever comes into a call, and its promise has them for each.
abbrev pub WrittenReadsBack : Type 0
WrittenReadsBack = (s : Session) → Fit s → (buffer : List ℕ) → ReadsBack s (host_write_of s buffer).0 (host_write_of s buffer).1

abbrev pub ReadWritesBack : Type 0
ReadWritesBack = (f : List ℕ) → AreBytes f → WritesBack f (host_read_of f)
