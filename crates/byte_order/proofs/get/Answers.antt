-- `byte_order::get` meets its contract.
use Rattle.std.proofs.Common.{◌∙◌, arith}
use Rattle.byte_order.proofs.Parts.{get_below, get_part}
use Rattle.byte_order.proofs.get.Goals as goal

pub returns : goal.returns
returns g c =
    let n = g.row.N in
    let a = c.args in
    let same = c.from_le_bytes.ensures ∙ get_part n a.at a.s.now _ c.requires.width c.requires.room c.copy_from_slice.ensures.after in
    (same, rw same (get_below n a.at a.s.now (λ i. omega (arith, c.type_inv.s i))))
