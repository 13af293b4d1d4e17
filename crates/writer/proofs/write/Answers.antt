-- `writer::write` meets its contract.
use mathlib.Core.Path.{refl, sym, ap, ◌∙◌}
use Rattle.std.specs.Prelude.{Ok, Err}
use Rattle.std.proofs.lemmas.Result.{err_from_is_err_and}
use Rattle.file.specs.Writing.{file_of}
use Rattle.session.proofs.Fits.{session_fits}
use Rattle.file.proofs.RoundTrip.{by_verdict, write_room}
use Rattle.byte_order.proofs.Joined.{in_front}
use Rattle.writer.proofs.write.Goals as goal

pub put_file-requires : goal.put_file-requires
put_file-requires c = let a = c.args in write_room a.session a.buffer.now (sym c.judge.ensures ∙ c.in_ok-judge.was)

pub returns-in_err-judge : goal.returns-in_err-judge
returns-in_err-judge c =
    let a = c.args in
    let p = err_from_is_err_and c.from_residual.result c.from_residual.ensures.1 in
    by_verdict a.session a.buffer.now (Err _) _ _ (session_fits a.session _ c.well_formed.0) (sym c.judge.ensures ∙ c.in_err-judge.was)
    (rw (p.1, p.2) refl) refl

pub returns : goal.returns
returns c =
    let a = c.args in
    let file = c.put_file.ensures in
    let v = sym c.judge.ensures ∙ c.in_ok-judge.was in
    by_verdict a.session a.buffer.now (Ok tt) _ _ (session_fits a.session _ c.well_formed.0) v
    (ap Ok file.0)
    (file.1 ∙ in_front (file_of a.session) a.buffer.now (write_room a.session a.buffer.now v))
