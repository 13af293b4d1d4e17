-- `writer::put_note` meets its contract.
use Rattle.std.proofs.Common.{◌∷◌}
use Rattle.byte_order.specs.Bytes.{bytes_le}
use Rattle.file.proofs.Lengths.{part_present}
use Rattle.page.proofs.Behind.{first_room, next_room, both}
use Rattle.writer.proofs.put_note.Goals as goal

pub put_number-requires : goal.put_number-requires
put_number-requires c =
    let a = c.args in
    first_room (4 ∷ bytes_le 8 _) (bytes_le 8 _) a.page.now (rw (part_present a.session _ c.in-Some.is) at c.requires)

pub put_word-requires : goal.put_word-requires
put_word-requires c =
    let a = c.args in
    next_room (4 ∷ bytes_le 8 _) (bytes_le 8 _) a.page.now _ (rw (part_present a.session _ c.in-Some.is) at c.requires) c.put_number.ensures

pub returns-in-Some : goal.returns-in-Some
returns-in-Some c = rw (part_present c.args.session _ c.in-Some.is) (both _ _ _ _ _ c.put_number.ensures c.put_word.ensures)
