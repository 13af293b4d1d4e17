-- 01, "The paused session file": "One byte of kind, then a body whose length the kind fixes. In this order: 0x01 pc, 8 bytes; 0x02
-- registers r1 to r31, 248 bytes; 0x03 total, 8 bytes; optionally 0x04 note, 16 bytes; 0x05 end, no body." Writing (Writing.antt) and
-- reading (Reading.antt) both go by these rows.
use Rattle.std.specs.Prelude.{ℕ, zero, suc, ◌+◌, Bool, true, false, List, [], ◌∷◌, ◌++◌, drop, Option, Some}
use Rattle.byte_order.specs.Bytes.{get_le, bytes_le}
use Rattle.session.specs.declared.Note.{Note}
use Rattle.session.specs.declared.Session.{Session}
use Rattle.session.specs.Session.{note, note_bytes}

-- One kind: its byte, the length of its body, whether it may be left out, the body that a session has, and the session that a body gives
-- which stands in a file from `at` on.
pub record Row : Type 0 where
  pub kind : ℕ
  pub len : ℕ
  pub optional : Bool
  pub body : Session → List ℕ
  pub taken : List ℕ → ℕ → Session → Session

abbrev pub due : ℕ → ℕ → (Session → List ℕ) → (List ℕ → ℕ → Session → Session) → Row
due kind len body taken = record { kind = kind; len = len; optional = false; body = body; taken = taken }

abbrev pub optional : ℕ → ℕ → (Session → List ℕ) → (List ℕ → ℕ → Session → Session) → Row
optional kind len body taken = record { kind = kind; len = len; optional = true; body = body; taken = taken }

-- numbers of 8 bytes each, and k of them from `at` on
unfoldable pub bytes_of_each : List ℕ → List ℕ
bytes_of_each [] = []
bytes_of_each (x ∷ xs) = bytes_le 8 x ++ bytes_of_each xs

unfoldable pub numbers_at : ℕ → ℕ → List ℕ → List ℕ
numbers_at zero at f = []
numbers_at (suc k) at f = get_le 8 at f ∷ numbers_at k (at + 8) f

-- a session with another pc, and so on
abbrev pub with_pc : Session → ℕ → Session
with_pc s pc = record { regs = s.regs; pc = record { 0 = pc }; total = s.total; note = s.note }

abbrev pub with_registers : Session → List ℕ → Session
with_registers s regs = record { regs = regs; pc = s.pc; total = s.total; note = s.note }

abbrev pub with_total : Session → ℕ → Session
with_total s total = record { regs = s.regs; pc = s.pc; total = total; note = s.note }

abbrev pub with_note : Session → Option Note → Session
with_note s note = record { regs = s.regs; pc = s.pc; total = s.total; note = note }

-- "0x01 pc, 8 bytes"
abbrev pub pc_row : Row
pc_row = due 0x01 8 (λ s. bytes_le 8 s.pc.0) (λ f at s. with_pc s (get_le 8 at f))

-- "0x02 registers r1 to r31, 248 bytes": register 0 is not in it, it is zero
abbrev pub registers_row : Row
registers_row = due 0x02 248 (λ s. bytes_of_each (drop 1 s.regs)) (λ f at s. with_registers s (0 ∷ numbers_at 31 at f))

-- "0x03 total, 8 bytes"
abbrev pub total_row : Row
total_row = due 0x03 8 (λ s. bytes_le 8 s.total) (λ f at s. with_total s (get_le 8 at f))

-- "optionally 0x04 note, 16 bytes"
abbrev pub note_row : Row
note_row = optional 0x04 16 (λ s. note_bytes s.note) (λ f at s. with_note s (Some (note (get_le 8 at f) (get_le 8 (at + 8) f))))

-- "0x05 end, no body"
abbrev pub end_row : Row
end_row = due 0x05 0 (λ s. []) (λ f at s. s)

-- "In this order"
abbrev pub format : List Row
format = pc_row ∷ registers_row ∷ total_row ∷ note_row ∷ end_row ∷ []
