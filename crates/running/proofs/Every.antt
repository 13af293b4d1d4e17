-- What holds of every run: it is spent, or its next step raises, or that step completes and the rest of the run follows. What is
-- shown of these three is shown of every run.
use mathlib.Core.Path.{◌≡◌, refl}
use Prim.Native.Nat.{ℕ, zero, suc, ◌≤◌}
use native.Mathlib.Omega.{arith}
use Rattle.std.specs.Prelude.{Result, Ok, Err}
use Rattle.fault.specs.declared.Fault.{Fault}
use Rattle.apply.specs.Machine.{Ground, State, Ended, done, raised}
use Rattle.cpu.specs.Step.{step_of}
use Rattle.cpu.proofs.Raising.{raise_unchanged}
use Rattle.session.specs.declared.Stop.{Stop}
use Rattle.running.specs.Run.{Went, stopped, counted, run_of}
use Rattle.running.proofs.Turning.{run_none, run_done, run_raised}

-- a step that completes, by its parts
finished : (e : Ended) → e.end ≡ Ok tt → e ≡ done e.state
finished e p = rw (← p) refl

module _ (g : Ground) (P : ℕ → State → Went → Type 0)
    (spent : (s : State) → P 0 s (stopped Stop.Spent s))
    (raises : (n : ℕ) (s : State) (f : Fault) → step_of g s ≡ raised f s → P (suc n) s (stopped (Stop.Raised f) s))
    (completes : (n : ℕ) (s u : State) (r : Went) → step_of g s ≡ done u → P n u r → P (suc n) s (counted 1 r)) where
  pub of_run : (n : ℕ) (s : State) → P n s (run_of g n s)
  of_run zero s = rw (run_none g 0 s refl) (spent s)
  of_run (suc n) s = go e.end refl (of_run n e.state)
    where
      e : Ended
      e = step_of g s

      go : (x : Result (Unit {0}) Fault) → e.end ≡ x → P n e.state (run_of g n e.state) → P (suc n) s (run_of g (suc n) s)
      go (Ok tt) p rest = let d = finished e p in rw (run_done g n s e.state d) (completes n s e.state _ d rest)
      go (Err f) p rest = let d = raise_unchanged g s f p in rw (run_raised g n s f s d) (raises n s f d)

-- no more steps than the budget
pub steps_within : (g : Ground) (n : ℕ) (s : State) → (run_of g n s).steps ≤ n
steps_within g = of_run g (λ n s r. r.steps ≤ n) (λ s. omega arith) (λ n s f d. omega arith) (λ n s u r d rest. omega arith)
