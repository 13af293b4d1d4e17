-- A refusal and a budget of 0 leave all as it came.
use mathlib.Core.Path.{◌≡◌, refl}
use Prim.Native.Nat.{ℕ}
use native.Mathlib.Nat.{add-zero}
use native.Mathlib.Omega.{arith}
use Rattle.std.specs.Prelude.{Result, Ok, Err}
use Rattle.session.specs.declared.Refusal.{Refusal}
use Rattle.session.specs.declared.Outcome.{Outcome}
use Rattle.refuse.specs.Refusals.{verdict_of}
use Rattle.running.specs.Run.{ran_of, run_of}
use Rattle.running.specs.Call.{judged, tests_of, host_run_of}
use Rattle.running.specs.Edges.{Unmoved, RefusedChangesNothing, NoBudgetNoStep}

pub refused_changes_nothing : RefusedChangesNothing
unfolding host_run_of ran_of
refused_changes_nothing g s budget arena why = go (verdict_of (tests_of g s budget arena))
  where
    go : (v : Result (Unit {0}) Refusal) → (judged v s arena (ran_of g s budget arena)).0.outcome ≡ Outcome.Refused why
        → Unmoved s arena (judged v s arena (ran_of g s budget arena))
    go (Ok tt) e = let z : ◌≡◌ {A = ℕ} 0 1 = cc in absurd (omega arith)
    go (Err r) e = record { steps = refl; session = refl; bytes = refl }

pub no_budget_no_step : NoBudgetNoStep
unfolding ran_of run_of
no_budget_no_step g s arena = (refl, record { steps = refl; session = rw add-zero refl; bytes = refl })
