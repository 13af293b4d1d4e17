-- The turns of a run: one step of it, in the words of a step's promise, and what is left when it ends.
use mathlib.Core.Path.{◌≡◌, refl, sym, ap, ◌∙◌}
use mathlib.Core.List.{List}
use Prim.Native.Nat.{ℕ, suc, ◌+◌, ◌-◌, ◌≤◌, ◌<◌}
use native.Mathlib.Nat.{zero-add, add-zero, add_assoc, sub-zero}
use native.Mathlib.Omega.{arith}
use Rattle.std.specs.Prelude.{Ok, Err}
use Rattle.fault.specs.declared.Fault.{Fault}
use Rattle.apply.specs.Machine.{Ground, State, Ended, done, raised}
use Rattle.cpu.specs.Step.{step_of}
use Rattle.session.specs.declared.Session.{Session}
use Rattle.session.specs.declared.Stop.{Stop}
use Rattle.session.specs.declared.Outcome.{Outcome}
use Rattle.running.specs.Run.{Went, stopped, counted, run_of, state_of, session_after, ran_of, Leaves}

module _ (g : Ground) where
  pub run_none : (n : ℕ) (s : State) → n ≡ 0 → run_of g n s ≡ stopped Stop.Spent s
  unfolding run_of
  run_none n s e = rw e refl

  -- a step that completes is counted, and the run goes on from what it left
  pub run_done : (n : ℕ) (s u : State) → step_of g s ≡ done u → run_of g (suc n) s ≡ counted 1 (run_of g n u)
  unfolding run_of
  run_done n s u e =
      let d : (step_of g s).end ≡ Ok tt = ap (λ (x : Ended). x.end) e in
      rw (d, run_of) (rw e refl)

  -- one that raises ends the run
  pub run_raised : (n : ℕ) (s : State) (f : Fault) (u : State) → step_of g s ≡ raised f u → run_of g (suc n) s ≡ stopped (Stop.Raised f) u
  unfolding run_of
  run_raised n s f u e =
      let d : (step_of g s).end ≡ Err f = ap (λ (x : Ended). x.end) e in
      rw (d, run_of) (rw e refl)

  -- ---- the loop's turns: k steps of b are done

  pub goes : (b k : ℕ) (s u : State) → k < b → step_of g s ≡ done u → counted (k + 1) (run_of g (b - (k + 1)) u) ≡ counted k (run_of g (b - k) s)
  goes b k s u h e =
      let n : b - k ≡ suc (b - (k + 1)) = omega arith in
      let d = run_done (b - (k + 1)) s u e in
      rw (n, d, add_assoc) refl

  pub ends : (b k : ℕ) (s : State) (f : Fault) (u : State) → k < b → step_of g s ≡ raised f u
      → counted k (stopped (Stop.Raised f) u) ≡ counted k (run_of g (b - k) s)
  ends b k s f u h e =
      let n : b - k ≡ suc (b - (k + 1)) = omega arith in
      let d = run_raised (b - (k + 1)) s f u e in
      rw (n, d) refl

  -- the loop counts up to b, and there the budget is spent
  pub spends : (b k : ℕ) (s : State) (r : Went) → k ≤ b → b ≤ k → counted k (run_of g (b - k) s) ≡ r → counted b (stopped Stop.Spent s) ≡ r
  spends b k s r h l e =
      let n : b ≡ k = omega arith in
      ap (λ (m : ℕ). counted m (stopped Stop.Spent s)) n ∙ ap (counted k) (sym (run_none (b - k) s (omega arith))) ∙ e

  -- nothing is done yet
  pub begins : (b : ℕ) (s : State) → counted 0 (run_of g (b - 0) s) ≡ run_of g b s
  begins b s = rw (sub-zero, zero-add) refl

  -- the reply of a run that stopped after k steps
  pub replies : (s : Session) (b k : ℕ) (why : Stop) (u : State) (arena : List ℕ) → counted k (stopped why u) ≡ run_of g b (state_of s arena)
      → Leaves (record { outcome = Outcome.Stopped why; steps = k; session = session_after k u s }) u.arena (ran_of g s b arena)
  unfolding ran_of
  replies s b k why u arena e = (rw (← e, add-zero) refl, rw (← e) refl)
