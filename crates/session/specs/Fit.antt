-- What every session has that a caller can hand in, by the types of its numbers. 01: "32 general registers of 64 bits", "16 bytes". No
-- promise asks it of anyone: proofs/Fits.antt shows it of whatever session comes in. What every file has is `AreBytes`
-- (crates/byte_order/specs/Bytes.antt).
use Rattle.std.specs.Prelude.{ℕ, ◌^◌, ◌<◌, ◌≡◌, length, get_or, Option, Some, None}
use Rattle.session.specs.declared.Note.{Note}
use Rattle.session.specs.declared.Session.{Session}

abbrev pub NoteFit : Option Note → Type 0
NoteFit None = Unit {0}
NoteFit (Some note) = (note.low < 2 ^ 64) × (note.high < 2 ^ 64)

pub record Fit (s : Session) : Type 0 where
  pub count : length s.regs ≡ 32
  pub regs : (i : ℕ) → get_or s.regs i 0 < 2 ^ 64
  pub pc : s.pc.0 < 2 ^ 64
  pub total : s.total < 2 ^ 64
  pub note : NoteFit s.note
