-- A raising instruction changes nothing: registers, pc and arena are as they were.
use mathlib.Core.Path.{◌≡◌, refl}
use Rattle.std.specs.Prelude.{Err}
use Rattle.fault.specs.declared.Fault.{Fault}
use Rattle.apply.specs.Machine.{Ground, State, Ended, raised}
use Rattle.cpu.specs.Step.{step_of}
use Rattle.apply.proofs.Unmoved.{finished}
use Rattle.cpu.proofs.Cases.{of_step}

pub raise_unchanged : (g : Ground) (s : State) (f : Fault) → (step_of g s).end ≡ Err f → step_of g s ≡ raised f s
raise_unchanged g s f =
    of_step (λ (x : Ended). x.end ≡ Err f → x ≡ raised f s) g s
    (λ k e. let h : k ≡ f = cc in rw h refl)
    (λ rd v to e. finished f e)
    (λ to e. finished f e)
    (λ k o v i j e. finished f e)
