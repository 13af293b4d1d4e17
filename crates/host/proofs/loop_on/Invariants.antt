-- `host::loop_on` meets its contract: what is left to run, after the steps that are counted, is the whole run.
use mathlib.Core.Path.{◌≡◌}
use Prim.Native.Nat.{◌-◌}
use Rattle.apply.specs.Machine.{ground_on, state}
use Rattle.running.specs.Run.{counted, run_of}
use Rattle.host.proofs.loop_on.Given as goal

abbrev pub invariant-loop-steps : goal.invariant-loop-steps
invariant-loop-steps l =
    let g = ground_on l.code l.window in
    counted l.steps (run_of g (l.budget - l.steps) (state l.regs l.pc l.arena)) ≡ run_of g l.budget (state l.initial.regs l.initial.pc l.initial.arena)
