-- `printed::put_decimal` meets its contract.
use Rattle.std.proofs.Common.{arith, [], ◌∷◌}
use Rattle.printed.specs.Digits.{glyph_of}
use Rattle.printed.proofs.Digits.{decimal_more, decimal_last}
use Rattle.page.proofs.Behind.{first_room, next_room, both}
use Rattle.printed.proofs.+put_decimal.Goals.{then-n-ge10, else-n-ge10}
use Rattle.printed.proofs.+put_decimal.Goals as goal

pub put_decimal-requires : goal.put_decimal-requires
put_decimal-requires t c =
    let a = c.args in
    (omega (arith, c.decreases, c.if-n-ge10.true), first_room _ _ a.page.now (rw (decimal_more a.n c.if-n-ge10.true (omega arith)) at c.requires))

pub put-requires : goal.put-requires
put-requires t c =
    let a = c.args in
    elim c.if-n-ge10.branch [
      | then-n-ge10 w ↦ rw w.page-is (next_room _ (glyph_of _ ∷ []) a.page.now _ (rw (decimal_more a.n w.if-n-ge10.true (omega arith)) at c.requires) w.put_decimal.ensures)
      | else-n-ge10 w ↦ rw w.page-is (rw (decimal_last a.n w.if-n-ge10.false) at c.requires)
    ]

pub returns : goal.returns
returns t c =
    let a = c.args in
    let last = rw c.glyph.ensures at c.put.ensures in
    elim c.if-n-ge10.branch [
      | then-n-ge10 w ↦ rw (decimal_more a.n w.if-n-ge10.true (omega arith)) (both _ _ a.page.now _ _ w.put_decimal.ensures (rw w.page-is at last))
      | else-n-ge10 w ↦ rw (decimal_last a.n w.if-n-ge10.false) (rw w.page-is at last)
    ]
