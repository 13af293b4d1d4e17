-- 01, "The guest machine": "A session holds 32 general registers of 64 bits, the program counter (pc), the total of steps completed, and
-- a support note: 16 bytes, or absent and then without content."
use Rattle.std.specs.Prelude.{ℕ, ◌^◌, List, [], ◌++◌, replicate, Option, Some, None}
use Rattle.place.specs.Place.{code_base}
use Rattle.byte_order.specs.Bytes.{bytes_le}
use Rattle.session.specs.declared.Note.{Note}
use Rattle.session.specs.declared.Session.{Session}

-- "the fresh session (all zero, no note)"
abbrev pub fresh_of : Session
fresh_of = record { regs = replicate 32 0; pc = record { 0 = 0 }; total = 0; note = None }

-- "all registers 0, pc 0x10000, total 0"
abbrev pub start_of : Session
start_of = record { regs = replicate 32 0; pc = record { 0 = code_base }; total = 0; note = None }

-- a note, by its two numbers
abbrev pub note : ℕ → ℕ → Note
note low high = record { low = low; high = high }

-- the bytes of a note ("All data is little-endian")
abbrev pub note_bytes : Option Note → List ℕ
note_bytes None = []
note_bytes (Some note) = bytes_le 8 note.low ++ bytes_le 8 note.high

-- refusal 5: "budget over 1,000,000"
abbrev pub budget_max : ℕ
budget_max = 1000000

-- refusal 6: "total plus budget exceeds 2^63"
abbrev pub total_max : ℕ
total_max = 2 ^ 63
