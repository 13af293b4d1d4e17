-- Each setter of the machine's records sets its own field, and given the value that is there gives the record back.
use Rattle.std.proofs.Common.{refl}
use Rattle.apply.specs.Machine.{Ground, State, with_window, with_regs, with_pc, with_arena, Sets}

pub setters : Sets (λ (g : Ground). g.window) with_window
    × Sets (λ (s : State). s.regs) with_regs
    × Sets (λ (s : State). s.pc) with_pc
    × Sets (λ (s : State). s.arena) with_arena
setters = ((λ x g. (refl, refl)), (λ x s. (refl, refl)), (λ x s. (refl, refl)), (λ x s. (refl, refl)))
