-- `writer::buffer_due` meets its contract.
use mathlib.Core.Path.{refl}
use Rattle.file.specs.Writing.{buffer_due}
use Rattle.file.proofs.Lengths.{length_without, length_with_lem}
use Rattle.session.proofs.Fits.{session_fits}
use Rattle.writer.proofs.buffer_due.Goals as goal

pub returns-in-None : goal.returns-in-None
unfolding buffer_due
returns-in-None c = let s = c.args.session in rw (length_without s (session_fits s _ c.well_formed.0).count c.in-None.is) refl

pub returns-in-Some : goal.returns-in-Some
unfolding buffer_due
returns-in-Some c = let s = c.args.session in rw (length_with_lem s _ (session_fits s _ c.well_formed.0).count c.in-Some.is) refl
