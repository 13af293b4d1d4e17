-- 01's sentences on what is printed, each on a whole text. All rows stand under one theorem, whose proof is "compute both sides"
-- (proofs/Examples.antt, `as_typed`).
use Rattle.std.specs.Prelude.{ℕ, List, [], ◌∷◌, Some}
use Prim.Native.String.{String}
use Rattle.fault.specs.declared.Fault.{Fault}
use Rattle.session.specs.Session.{note}
use Rattle.session.specs.declared.Stop.{Stop}
use Rattle.session.specs.declared.Refusal.TheVariants.{CodeLength, BufferLength}
use Rattle.session.specs.declared.Outcome.{Outcome}
use Rattle.session.specs.declared.Reply.{Reply}
use Rattle.session.specs.Registers.{Value, r, registers}

abbrev reply : Outcome → ℕ → ℕ → List Value → Reply
reply o steps pc xs =
    record { outcome = o; steps = steps; session = record { regs = registers xs; pc = record { 0 = pc }; total = 99; note = Some (note 1 2) } }

abbrev raised : Fault → Outcome
raised f = Outcome.Stopped (Stop.Raised f)

pub record Row : Type 0 where
  pub given : Reply
  pub text : String

abbrev row : Reply → String → Row
row given text = record { given = given; text = text }

-- the first row is 01's own example
abbrev pub rows : List Row
rows =
    row (reply (raised (Fault.Syscall 0)) 2 0x10008 (r 4 7 ∷ r 5 0x38 ∷ []))
    "stop 11 0 0000000000000000\nsteps 2\npc 0000000000010008\nr4 0000000000000007\nr5 0000000000000038\n"
    ∷ row (reply (raised (Fault.Adef (record { 0 = 0x10000 }))) 0 0x10000 [])
    "stop 8 0 0000000000010000\nsteps 0\npc 0000000000010000\n"
    ∷ row (reply (raised (Fault.Adem (record { 0 = 0x40000040 }))) 1000000 0xfedcba9876543210 (r 1 0xabcdef ∷ r 31 0xffffffffffffffff ∷ []))
    "stop 8 1 0000000040000040\nsteps 1000000\npc fedcba9876543210\nr1 0000000000abcdef\nr31 ffffffffffffffff\n"
    ∷ row (reply (Outcome.Stopped Stop.Spent) 10 0x10028 (r 10 10 ∷ []))
    "stop budget\nsteps 10\npc 0000000000010028\nr10 000000000000000a\n"
    ∷ row (reply (Outcome.Refused CodeLength) 0 0x10000 (r 4 7 ∷ []))
    "refused 1\n"
    ∷ row (reply (Outcome.Refused BufferLength) 0 0x10000 (r 4 7 ∷ []))
    "refused 14\n"
    ∷ row (reply Outcome.Answered 0 0x1000c (r 4 7 ∷ []))
    "answered\nsteps 0\npc 000000000001000c\nr4 0000000000000007\n"
    ∷ []
