-- The tables of worked examples, each one computed test.
use Rattle.std.specs.Prelude.{◌≡◌, refl, true, eqb, get_or}
use Rattle.byte_order.specs.Bytes.{get_le, bytes_le}
use Rattle.file.specs.Format.{bytes_of_each, numbers_at}
use Rattle.file.specs.Writing.{file_of}
use Rattle.file.specs.Reading.{due_of, stands, ended_of, parsed_of, host_read_of}
use Rattle.file.specs.Examples.{noted, of_all, Byte, places, damages, told}

pub bytes_in_place : of_all (λ (b : Byte). eqb (get_or noted b.at 0) b.value) places ≡ true
unfolding file_of bytes_le bytes_of_each
bytes_in_place = refl

pub damages_told : of_all told damages ≡ true
unfolding file_of bytes_le bytes_of_each numbers_at get_le host_read_of parsed_of due_of stands ended_of
damages_told = refl
