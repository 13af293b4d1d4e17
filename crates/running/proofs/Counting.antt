-- A run counts the steps that complete, and no other.
use mathlib.Core.Path.{◌≡◌, refl, sym, ap, ◌∙◌}
use Prim.Native.Nat.{ℕ, zero, suc, ◌+◌, ◌<◌}
use native.Mathlib.Omega.{arith}
use Rattle.std.specs.Prelude.{Ok}
use Rattle.fault.specs.declared.Fault.{Fault}
use Rattle.apply.specs.Machine.{Ground, State, Ended, done, raised}
use Rattle.cpu.specs.Step.{step_of}
use Rattle.session.specs.declared.Stop.{Stop}
use Rattle.running.specs.Run.{Went, stopped, counted}
use Rattle.running.proofs.Every.{of_run}
use Rattle.running.specs.Counted.{after, Because, Counts, EveryRunCounts}

module _ (g : Ground) where
  spent : (s : State) → Counts g 0 s (stopped Stop.Spent s)
  unfolding after
  spent s = record { completed = λ j h. absurd (omega arith); leaves = refl; because = refl }

  raises : (n : ℕ) (s : State) (f : Fault) → step_of g s ≡ raised f s → Counts g (suc n) s (stopped (Stop.Raised f) s)
  unfolding after
  raises n s f d =
      record { completed = λ j h. absurd (omega arith); leaves = refl; because = (omega arith, ap (λ (e : Ended). e.end) d) }

  -- after a first step that completes, the rest counts one more
  module _ (s u : State) (d : step_of g s ≡ done u) where
    later : (j : ℕ) → after g (suc j) s ≡ after g j u
    unfolding after
    later j = ap (λ (e : Ended). after g j e.state) d

    first : (step_of g s).end ≡ Ok tt
    first = ap (λ (e : Ended). e.end) d

    one_more : (k : ℕ) → after g (1 + k) s ≡ after g k u
    one_more k = let e : 1 + k ≡ suc k = omega arith in rw e (later k)

    all_done : (k : ℕ) → ((j : ℕ) → j < k → (step_of g (after g j u)).end ≡ Ok tt) → (j : ℕ) → j < 1 + k → (step_of g (after g j s)).end ≡ Ok tt
    unfolding after
    all_done k rest zero h = first
    all_done k rest (suc j) h = rw (later j) (rest j (omega arith))

    so : (n k : ℕ) (why : Stop) → Because g n u k why → Because g (suc n) s (1 + k) why
    so n k (Stop.Raised f) b = (let l = b.0 in omega arith, rw (one_more k) b.1)
    so n k Stop.Spent b = let e : k ≡ n = b in omega arith

    completes : (n : ℕ) (r : Went) → Counts g n u r → Counts g (suc n) s (counted 1 r)
    completes n r rest =
        record {
          completed = all_done r.steps rest.completed;
          leaves = rest.leaves ∙ sym (one_more r.steps);
          because = so n r.steps r.stop rest.because;
        }

pub every_run_counts : EveryRunCounts
every_run_counts g = of_run g (Counts g) (spent g) (raises g) (λ n s u r d. completes g s u d n r)
