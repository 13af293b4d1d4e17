-- The host's call: the refusals first, then the run. And what `host::run` promises, for all inputs.
use Rattle.std.specs.Prelude.{ℕ, ◌+◌, ◌≤◌, ◌≡◌, List, length, Result, Ok, Err}
use Rattle.apply.specs.Machine.{Ground}
use Rattle.session.specs.declared.Session.{Session}
use Rattle.session.specs.declared.Refusal.{Refusal}
use Rattle.session.specs.declared.Outcome.{Outcome}
use Rattle.session.specs.declared.Reply.{Reply}
use Rattle.session.specs.Numbers.{numbers_of}
use Rattle.refuse.specs.Refusals.{Test, verdict_of, run_tests}
use Rattle.running.specs.Run.{ran_of}

-- "Refused runs .. return the session as it came, with step count 0, the arena unchanged"
abbrev pub judged : Result (Unit {0}) Refusal → Session → List ℕ → Reply × List ℕ → Reply × List ℕ
judged (Ok tt) s arena ran = ran
judged (Err r) s arena ran = (record { outcome = Outcome.Refused r; steps = 0; session = s }, arena)

-- the tests of a call
abbrev pub tests_of : Ground → Session → ℕ → List ℕ → List Test
tests_of g s budget arena = run_tests (length g.code) (length arena) g.window s budget

unfoldable pub host_run_of : Ground → Session → ℕ → List ℕ → Reply × List ℕ
host_run_of g s budget arena = judged (verdict_of (tests_of g s budget arena)) s arena (ran_of g s budget arena)

-- The promise of `host::run`: of its inputs, its reply r and the arena afterwards
pub record Runs (g : Ground) (s : Session) (budget : ℕ) (arena : List ℕ) (r : Reply) (after : List ℕ) : Type 0 where
  -- outcome, step count and session
  pub reply : r ≡ (host_run_of g s budget arena).0
  -- every byte of the arena
  pub bytes : after ≡ (host_run_of g s budget arena).1
  -- the outcome by 01's numbers: the refusal's, or Ecode, subcode and what the stop carries
  pub numbers : numbers_of r.outcome ≡ numbers_of (host_run_of g s budget arena).0.outcome
  -- no more steps than the budget
  pub within : r.steps ≤ budget
  -- the total has grown by the steps
  pub total : r.session.total ≡ s.total + r.steps
