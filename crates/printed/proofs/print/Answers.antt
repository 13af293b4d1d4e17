-- `printed::print` meets its contract.
use Rattle.std.proofs.Common.{sym, ◌∙◌, arith, ◌≤◌, length}
use native.Mathlib.Nat.{zero-add}
use lib.Seq.{length-take-le}
use Rattle.byte_order.proofs.Joined.{in_front}
use Rattle.session.proofs.Fits.{session_fits}
use Rattle.page.proofs.Behind.{length_put}
use Rattle.printed.specs.Lines.{printed_of}
use Rattle.printed.proofs.Lengths.{length_outcome}
use Rattle.printed.proofs.print.Goals as goal

-- no text is longer than the page
pub put_outcome-requires : goal.put_outcome-requires
put_outcome-requires c =
    let r = c.args.reply in
    omega (arith, length_outcome r.outcome r.steps r.session (omega arith) (session_fits r.session _ c.well_formed.0.1.1.1.1.0).count)

pub returns-clause-prints : goal.returns-clause-prints
returns-clause-prints c =
    let a = c.args in
    let r = a.reply in
    let put = c.put_outcome.ensures in
    let l = length_outcome r.outcome r.steps r.session (omega arith) (session_fits r.session _ c.well_formed.0.1.1.1.1.0).count in
    let e = rw zero-add at put.place in
    (e, rw e (put.bytes ∙ in_front (printed_of r) a.page.now (omega (arith, l))))

pub returns-clause-within : goal.returns-clause-within
returns-clause-within c =
    let r = c.args.reply in
    let put = c.put_outcome.ensures in
    let l = length_outcome r.outcome r.steps r.session (omega arith) (session_fits r.session _ c.well_formed.0.1.1.1.1.0).count in
    let fits : c.put_outcome.new.page.at ≤ length c.put_outcome.new.page.bytes.now = omega (arith, length_put _ _ _ put, put.place, l) in
    (fits, sym (length-take-le _ _ fits))
