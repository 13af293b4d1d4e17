-- "The step count of a run equals the number of instructions completed" (01, "Stops"), said of single steps: the machine's state after
-- j steps needs no run and no count. The proof is in proofs/Counting.antt.
use Rattle.std.specs.Prelude.{ℕ, zero, suc, ◌<◌, ◌≡◌, Ok, Err}
use Rattle.apply.specs.Machine.{Ground, State}
use Rattle.cpu.specs.Step.{step_of}
use Rattle.session.specs.declared.Stop.{Stop}
use Rattle.running.specs.Run.{Went, run_of}

-- the state after j steps, however they end
unfoldable pub after : Ground → ℕ → State → State
after g zero s = s
after g (suc j) s = after g j (step_of g s).state

-- why a run of budget n stopped after k steps: the next one raises, or all are done
abbrev pub Because : Ground → ℕ → State → ℕ → Stop → Type 0
Because g n s k (Stop.Raised f) = (k < n) × ((step_of g (after g k s)).end ≡ Err f)
Because g n s k Stop.Spent = k ≡ n

-- of a run of budget n from a state s
pub record Counts (g : Ground) (n : ℕ) (s : State) (r : Went) : Type 0 where
  -- each step that it counts has completed
  pub completed : (j : ℕ) → j < r.steps → (step_of g (after g j s)).end ≡ Ok tt
  -- what it leaves is the state after them
  pub leaves : r.state ≡ after g r.steps s
  -- and it has stopped there because no further step completes within the budget
  pub because : Because g n s r.steps r.stop

abbrev pub EveryRunCounts : Type 0
EveryRunCounts = (g : Ground) (n : ℕ) (s : State) → Counts g n s (run_of g n s)
