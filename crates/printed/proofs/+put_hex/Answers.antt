-- `printed::put_hex` meets its contract.
use Rattle.std.proofs.Common.{[], ◌∷◌}
use Rattle.printed.specs.Digits.{glyph_of}
use Rattle.printed.proofs.Digits.{digits_more}
use Rattle.page.proofs.Behind.{next_room, both}
use Rattle.printed.proofs.+put_hex.Goals as goal

pub put-requires : goal.put-requires
put-requires t c =
    let a = c.args in
    next_room _ (glyph_of _ ∷ []) a.page.now _ (rw (digits_more 16 a.k a.n c.if-k-gt0.true) at c.requires) c.put_hex.ensures

pub returns-then-k-gt0 : goal.returns-then-k-gt0
returns-then-k-gt0 t c =
    let a = c.args in
    rw (digits_more 16 a.k a.n c.if-k-gt0.true) (both _ _ a.page.now _ _ c.put_hex.ensures (rw c.glyph.ensures at c.put.ensures))
