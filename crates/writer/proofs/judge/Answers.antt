-- `writer::judge` meets its contract.
use mathlib.Core.Path.{refl}
use Rattle.writer.proofs.judge.Goals as goal

pub returns-then-zero_due : goal.returns-then-zero_due
returns-then-zero_due c = rw (← c.zero_due.ensures, c.if-zero_due.true) refl

pub returns-then-buffer_due : goal.returns-then-buffer_due
returns-then-buffer_due c =
    rw (← c.zero_due.ensures, c.if-zero_due.false, ← c.buffer_due.ensures, c.if-buffer_due.true) refl

pub returns : goal.returns
returns c = rw (← c.zero_due.ensures, c.if-zero_due.false, ← c.buffer_due.ensures, c.if-buffer_due.false) refl
