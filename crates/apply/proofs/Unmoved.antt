-- An effect that raises leaves registers, pc and arena as they were.
use mathlib.Core.Path.{◌≡◌, refl}
use Rattle.std.specs.Prelude.{Ok, Err}
use Rattle.fault.specs.declared.Fault.{Fault}
use Rattle.apply.specs.Machine.{End, Ended}
use Rattle.apply.specs.Apply.{RaisingMovesNothing}
use Rattle.apply.proofs.Cases.{of_effect}

pub finished : {A : Type 0} (f : Fault) → ◌≡◌ {A = End} (Ok tt) (Err f) → A
finished f e = absurd (cc)

pub raising_moves_nothing : RaisingMovesNothing
raising_moves_nothing w e s f =
    of_effect (λ (x : Ended). x.end ≡ Err f → x.state ≡ s) w s
    (λ g r. refl)
    (λ rd v to r. finished f r)
    (λ to r. finished f r)
    (λ k o v i j r. finished f r)
    e
