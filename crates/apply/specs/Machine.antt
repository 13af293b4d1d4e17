-- The machine's state in two records: what a run stands on and does not change, and what a step changes; and how a step ended. No other file of
-- definitions lists the fields. Elsewhere the records are passed on whole, a field is read by its name, and a state is changed by a setter.
use Rattle.std.specs.Prelude.{ℕ, ◌≡◌, List, Result, Ok, Err}
use Rattle.place.specs.declared.GuestAddr.{GuestAddr}
use Rattle.place.specs.declared.Window.{Window}
use Rattle.fault.specs.declared.Fault.{Fault}
use Rattle.apply.specs.declared.Stepped.{Stepped}

-- What a run stands on: the code's bytes, and the window, an offset and a length in the arena (01, "The guest machine", house map).
pub record Ground : Type 0 where
  pub code : List ℕ
  pub window : Window

abbrev pub ground_on : List ℕ → Window → Ground
ground_on code window = record { code = code; window = window }

-- the same ground with another window in the place of its own
abbrev pub with_window : Window → Ground → Ground
with_window window g = ground_on g.code window

-- What a step changes: the registers, the pc, and every byte of the whole arena.
pub record State : Type 0 where
  pub regs : List ℕ
  pub pc : GuestAddr
  pub arena : List ℕ

abbrev pub state : List ℕ → GuestAddr → List ℕ → State
state regs pc arena = record { regs = regs; pc = pc; arena = arena }

-- the same state but for one field
abbrev pub with_regs : List ℕ → State → State
with_regs regs s = state regs s.pc s.arena

abbrev pub with_pc : GuestAddr → State → State
with_pc pc s = state s.regs pc s.arena

abbrev pub with_arena : List ℕ → State → State
with_arena arena s = state s.regs s.pc arena

-- Each setter sets its own field; given the value that is there, it gives the record back, so that it loses no other field.
abbrev pub Sets : {R F : Type 0} → (R → F) → (F → R → R) → Type 0
Sets {R} {F} field setter = (x : F) (r : R) → (field (setter x r) ≡ x) × (setter (field r) r ≡ r)

-- How a step ended: it is done, or a fault was raised
abbrev pub End : Type 0
End = Result (Unit {0}) Fault

-- and the state that it leaves
pub record Ended : Type 0 where
  pub end : End
  pub state : State

abbrev pub done : State → Ended
done s = record { end = Ok tt; state = s }

-- "A raising instruction changes nothing, pc included": the state is the one before it
abbrev pub raised : Fault → State → Ended
raised f s = record { end = Err f; state = s }

-- what `step` returns of it: all but the arena, which it writes in place
abbrev pub stepped_of : Ended → Stepped
stepped_of e = record { end = e.end; regs = e.state.regs; pc = e.state.pc }
