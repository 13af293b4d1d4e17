-- A run: steps until one raises or the budget is spent, over the whole arena (01, "Stops").
use Rattle.std.specs.Prelude.{ℕ, zero, suc, ◌+◌, ◌≡◌, List, Ok, Err}
use Rattle.apply.specs.Machine.{Ground, State, Ended, state}
use Rattle.cpu.specs.Step.{step_of}
use Rattle.session.specs.declared.Session.{Session}
use Rattle.session.specs.declared.Stop.{Stop}
use Rattle.session.specs.declared.Outcome.{Outcome}
use Rattle.session.specs.declared.Reply.{Reply}

-- what a run comes to: why it stopped, the steps that completed, and the state that it leaves
pub record Went : Type 0 where
  pub stop : Stop
  pub steps : ℕ
  pub state : State

abbrev pub stopped : Stop → State → Went
stopped why s = record { stop = why; steps = 0; state = s }

-- "An instruction that completes counts one step."
abbrev pub counted : ℕ → Went → Went
counted n r = record { stop = r.stop; steps = n + r.steps; state = r.state }

-- "Budget 0 stops as spent, without a fetch." "A raising instruction changes nothing, pc included, and is not counted."
unfoldable pub run_of : Ground → ℕ → State → Went
run_of g zero s = stopped Stop.Spent s
run_of g (suc n) s =
    let e : Ended = step_of g s in
    elim e.end [
      | Ok _ ↦ counted 1 (run_of g n e.state)
      | Err f ↦ stopped (Stop.Raised f) e.state
    ]

-- the state in which a session starts a run
abbrev pub state_of : Session → List ℕ → State
state_of s arena = state s.regs s.pc arena

-- and the session after n steps, which left the state u. "The step count .. is added to the total."
abbrev pub session_after : ℕ → State → Session → Session
session_after n u s = record { regs = u.regs; pc = u.pc; total = s.total + n; note = s.note }

abbrev pub reply_of : Session → Went → Reply × List ℕ
reply_of s r = (
  record { outcome = Outcome.Stopped r.stop; steps = r.steps; session = session_after r.steps r.state s },
  r.state.arena,
)

-- a run of a session
unfoldable pub ran_of : Ground → Session → ℕ → List ℕ → Reply × List ℕ
ran_of g s budget arena = reply_of s (run_of g budget (state_of s arena))

-- the reply and every byte of the arena
abbrev pub Leaves : Reply → List ℕ → Reply × List ℕ → Type 0
Leaves r after want = (r ≡ want.0) × (after ≡ want.1)
