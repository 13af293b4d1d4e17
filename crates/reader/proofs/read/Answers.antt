-- `reader::read` meets its contract.
use mathlib.Core.Path.{refl}
use Rattle.std.proofs.lemmas.Result.{err_from_is_err_and}
use Rattle.file.specs.Reading.{host_read_of}
use Rattle.file.proofs.RoundTrip.{reads}
use Rattle.reader.proofs.read.Goals as goal

pub returns-in_err-end : goal.returns-in_err-end
unfolding host_read_of
returns-in_err-end c =
    let p = err_from_is_err_and c.from_residual.result c.from_residual.ensures.1 in
    reads c.args.file.now _ (λ i. (c.type_inv.file i).fits) (rw (p.1, p.2, ← c.parse.ensures, c.in_err-end.was) refl)

pub returns : goal.returns
unfolding host_read_of
returns c = reads c.args.file.now _ (λ i. (c.type_inv.file i).fits) (rw (c.ended.ensures, ← c.parse.ensures, c.in_ok-end.was) refl)
