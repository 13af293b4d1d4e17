-- What the host's call is defined to give has the bounds that its promise names.
use mathlib.Core.Path.{◌≡◌, refl, sym, ap}
use mathlib.Core.List.{List}
use Prim.Native.Nat.{ℕ, ◌+◌, ◌≤◌}
use native.Mathlib.Nat.{add-zero}
use native.Mathlib.Omega.{arith}
use Rattle.std.specs.Prelude.{Result, Ok, Err}
use Rattle.apply.specs.Machine.{Ground}
use Rattle.session.specs.declared.Session.{Session}
use Rattle.session.specs.declared.Reply.{Reply}
use Rattle.session.specs.declared.Refusal.{Refusal}
use Rattle.session.specs.Numbers.{numbers_of}
use Rattle.refuse.specs.Refusals.{verdict_of}
use Rattle.running.specs.Run.{state_of, ran_of, Leaves}
use Rattle.running.specs.Call.{judged, tests_of, host_run_of, Runs}
use Rattle.running.proofs.Every.{steps_within}

module _ (g : Ground) (s : Session) (budget : ℕ) (arena : List ℕ) where
  -- no more steps than the budget, and the total has grown by them, refused or not
  bounds : (v : Result (Unit {0}) Refusal) → let want = (judged v s arena (ran_of g s budget arena)).0 in
      (want.steps ≤ budget) × (want.session.total ≡ s.total + want.steps)
  unfolding ran_of
  bounds (Ok tt) = (steps_within g budget (state_of s arena), refl)
  bounds (Err r) = (omega arith, sym (add-zero s.total))

  pub promised : (r : Reply) (after : List ℕ) → Leaves r after (host_run_of g s budget arena) → Runs g s budget arena r after
  unfolding host_run_of
  promised r after e =
      let b = bounds (verdict_of (tests_of g s budget arena)) in
      record {
        reply = e.0;
        bytes = e.1;
        numbers = ap (λ (x : Reply). numbers_of x.outcome) e.0;
        within = rw e.0 b.0;
        total = rw e.0 b.1;
      }

  -- the reply and the arena, from what the tests came to
  pub by_verdict : (v : Result (Unit {0}) Refusal) (r : Reply) (after : List ℕ) → verdict_of (tests_of g s budget arena) ≡ v
      → Leaves r after (judged v s arena (ran_of g s budget arena)) → Runs g s budget arena r after
  unfolding host_run_of
  by_verdict v r after q e = promised r after (rw q e)
