-- From a turn to a step: what the turn promised, as the step's result.
use mathlib.Core.Path.{◌≡◌, refl, sym, ap, subst, ◌∙◌}
use Rattle.std.specs.Prelude.{Result, Ok, Err}
use Rattle.place.specs.declared.GuestAddr.{GuestAddr}
use Rattle.fault.specs.declared.Fault.{Fault}
use Rattle.apply.specs.Machine.{End, Ground, State, Ended, with_pc, with_regs, done, raised}
use Rattle.apply.specs.Apply.{turned_of, LeavesState, Meets}
use Rattle.cpu.specs.Step.{step_of}
use Rattle.cpu.proofs.Raising.{raise_unchanged}

-- a turn that goes on has made the step
pub goes_on : (x : Ended) (t : Result GuestAddr Fault) (to : GuestAddr) (u : State) → t ≡ Ok to → Meets t u x → x ≡ done (with_pc to u)
goes_on x t to u e m = go x.end refl (sym e ∙ m.0)
  where
    left : with_pc to u ≡ x.state
    left = subst (λ (y : Result GuestAddr Fault). LeavesState y u x.state) e m.1

    go : (y : End) → x.end ≡ y → Ok to ≡ turned_of y x.state.pc → x ≡ done (with_pc to u)
    go (Ok u) p q = rw (left, ← p) refl
    go (Err f) p q = absurd (cc)

-- a turn that raises has changed nothing, and the old registers are the step's
pub stops : (g : Ground) (s : State) (t : Result GuestAddr Fault) (f : Fault) (u : State) → t ≡ Err f → Meets t u (step_of g s)
    → step_of g s ≡ raised f (with_regs s.regs u)
stops g s t f u e m = go (step_of g s).end refl (sym e ∙ m.0)
  where
    left : with_regs (step_of g s).state.regs u ≡ (step_of g s).state
    left = subst (λ (y : Result GuestAddr Fault). LeavesState y u (step_of g s).state) e m.1

    go : (y : End) → (step_of g s).end ≡ y → Err f ≡ turned_of y (step_of g s).state.pc → step_of g s ≡ raised f (with_regs s.regs u)
    go (Ok u) p q = absurd (cc)
    go (Err k) p q =
        let h : f ≡ k = cc in
        let d = raise_unchanged g s f (p ∙ ap (λ (x : Fault). Err x) (sym h)) in
        let w : with_regs s.regs u ≡ s = subst (λ (x : Ended). with_regs x.state.regs u ≡ x.state) d left in
        d ∙ ap (raised f) (sym w)
