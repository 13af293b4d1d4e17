-- `host::run` meets its promise: the tests decide, then the loop.
use mathlib.Core.Path.{refl, sym, ◌∙◌}
use lib.ListN.{length}
use Rattle.refuse.proofs.Accepted.{accepted}
use Rattle.running.proofs.Promise.{by_verdict}
use Rattle.host.proofs.run.Goals as goal

pub loop_on-requires : goal.loop_on-requires
loop_on-requires c =
    let a = c.args in
    accepted (length a.code.now) (length a.arena.now) a.window a.session a.budget (sym c.of_run.ensures ∙ c.in-Ok.is)

pub returns-in-Ok : goal.returns-in-Ok
returns-in-Ok c =
    by_verdict _ _ _ _ _ _ _
    (sym c.of_run.ensures ∙ c.in-Ok.is) c.loop_on.ensures

pub returns-in-Err : goal.returns-in-Err
returns-in-Err c =
    by_verdict _ _ _ _ _ _ _
    (sym c.of_run.ensures ∙ c.in-Err.is) (refl, refl)
