-- The two ends of a call that nothing may pass: a refusal changes nothing, and a budget of 0 does nothing. The proofs are in
-- proofs/Unmoved.antt.
use Rattle.std.specs.Prelude.{ℕ, ◌≡◌, List}
use Rattle.apply.specs.Machine.{Ground}
use Rattle.session.specs.declared.Session.{Session}
use Rattle.session.specs.declared.Stop.{Stop}
use Rattle.session.specs.declared.Refusal.{Refusal}
use Rattle.session.specs.declared.Outcome.{Outcome}
use Rattle.session.specs.declared.Reply.{Reply}
use Rattle.running.specs.Run.{ran_of}
use Rattle.running.specs.Call.{host_run_of}

-- step count 0, the session as it came, every byte of the arena as it came
pub record Unmoved (s : Session) (arena : List ℕ) (r : Reply × List ℕ) : Type 0 where
  pub steps : r.0.steps ≡ 0
  pub session : r.0.session ≡ s
  pub bytes : r.1 ≡ arena

-- demand 1: "A refusal says why by number and leaves session, arena and buffer exactly as they came."
abbrev pub RefusedChangesNothing : Type 0
RefusedChangesNothing =
    (g : Ground) (s : Session) (budget : ℕ) (arena : List ℕ) (why : Refusal)
    → (host_run_of g s budget arena).0.outcome ≡ Outcome.Refused why → Unmoved s arena (host_run_of g s budget arena)

-- "Budget 0 stops as spent, without a fetch": whatever the code and the pc are
abbrev pub NoBudgetNoStep : Type 0
NoBudgetNoStep =
    (g : Ground) (s : Session) (arena : List ℕ)
    → ((ran_of g s 0 arena).0.outcome ≡ Outcome.Stopped Stop.Spent) × Unmoved s arena (ran_of g s 0 arena)
