-- `writer::put_parts` meets its contract: part behind part.
use Rattle.file.specs.Format.{pc_row, registers_row, total_row, note_row}
use Rattle.file.specs.Writing.{part_bytes, file_of}
use Rattle.page.proofs.Behind.{first_room, next_room, both}
use Rattle.writer.proofs.put_parts.Goals as goal

pub put_number-requires : goal.put_number-requires
unfolding file_of
put_number-requires c = let a = c.args in first_room (part_bytes pc_row a.session) _ a.page.now c.requires

pub put_registers-requires : goal.put_registers-requires
unfolding file_of
put_registers-requires c =
    let a = c.args in
    let s = a.session in
    first_room (part_bytes registers_row s) _ c.put_number.new.page (next_room (part_bytes pc_row s) _ a.page.now _ c.requires c.put_number.ensures)

pub put_number-requires-2 : goal.put_number-requires-2
unfolding file_of
put_number-requires-2 c =
    let a = c.args in
    let s = a.session in
    let registers = next_room (part_bytes pc_row s) _ a.page.now _ c.requires c.put_number.ensures in
    first_room (part_bytes total_row s) _ c.put_registers.new.page (next_room (part_bytes registers_row s) _ _ _ registers c.put_registers.ensures)

pub put_note-requires : goal.put_note-requires
unfolding file_of
put_note-requires c =
    let a = c.args in
    let s = a.session in
    let registers = next_room (part_bytes pc_row s) _ a.page.now _ c.requires c.put_number.ensures in
    let total = next_room (part_bytes registers_row s) _ _ _ registers c.put_registers.ensures in
    first_room (part_bytes note_row s) _ c.put_number-2.new.page (next_room (part_bytes total_row s) _ _ _ total c.put_number-2.ensures)

pub put-requires : goal.put-requires
unfolding file_of
put-requires c =
    let a = c.args in
    let s = a.session in
    let registers = next_room (part_bytes pc_row s) _ a.page.now _ c.requires c.put_number.ensures in
    let total = next_room (part_bytes registers_row s) _ _ _ registers c.put_registers.ensures in
    let note = next_room (part_bytes total_row s) _ _ _ total c.put_number-2.ensures in
    next_room (part_bytes note_row s) _ _ _ note c.put_note.ensures

pub returns : goal.returns
unfolding file_of
returns c =
    both _ _ _ _ _ c.put_number.ensures
    (both _ _ _ _ _ c.put_registers.ensures (both _ _ _ _ _ c.put_number-2.ensures (both _ _ _ _ _ c.put_note.ensures c.put.ensures)))
