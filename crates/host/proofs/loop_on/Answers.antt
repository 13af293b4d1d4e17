-- `host::loop_on` meets its contract: what is left to run, after the steps that are counted, is the whole run.
use mathlib.Core.Path.{◌∙◌}
use native.Mathlib.Omega.{arith}
use Rattle.cpu.proofs.Turns.{goes_on, stops}
use Rattle.running.proofs.Turning.{goes, ends, spends, begins, replies}
use Rattle.host.proofs.loop_on.Goals as goal

pub loop-steps-init : goal.loop-steps-init
loop-steps-init c = begins _ _ _

pub loop-steps-preserved : goal.loop-steps-preserved
loop-steps-preserved c =
    let l = c.loop-steps in
    let s = goes_on _ _ _ _ c.in-Ok.is c.turn.ensures in
    goes _ _ _ _ _ c.loop-steps-test.true s ∙ l.invariant

pub returns-in-Err : goal.returns-in-Err
returns-in-Err c =
    let l = c.loop-steps in
    let s = stops _ _ _ _ _ c.in-Err.is c.turn.ensures in
    replies _ _ _ _ _ _ _ (ends _ _ _ _ _ _ c.loop-steps-test.true s ∙ l.invariant)

pub returns : goal.returns
returns c =
    let l = c.loop-steps in
    replies _ _ _ _ _ _ _ (spends _ _ _ _ _ (omega arith) c.loop-steps-test.false l.invariant)
