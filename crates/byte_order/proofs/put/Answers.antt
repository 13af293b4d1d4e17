-- `byte_order::put` meets its contract.
use Rattle.std.proofs.Common.{◌∙◌, ap, take}
use Rattle.byte_order.proofs.Parts.{put_part}
use Rattle.byte_order.proofs.put.Goals as goal

pub returns : goal.returns
returns g c =
    let a = c.args in
    put_part g.row.N a.at a.v a.s.now _ c.requires.width c.requires.room (c.copy_from_slice.ensures.after ∙ ap (take g.row.N) c.to_le_bytes.ensures)
