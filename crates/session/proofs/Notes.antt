-- The order of a note's bytes, at one note.
use Rattle.std.specs.Prelude.{◌≡◌, refl, [], ◌∷◌, Some}
use Rattle.byte_order.specs.Bytes.{bytes_le}
use Rattle.session.specs.Session.{note, note_bytes}

-- the first byte is the lowest of the first number
pub note_in_order : note_bytes (Some (note 0x0807060504030201 0x100f0e0d0c0b0a09)) ≡ 1 ∷ 2 ∷ 3 ∷ 4 ∷ 5 ∷ 6 ∷ 7 ∷ 8 ∷ 9 ∷ 10 ∷ 11 ∷ 12 ∷ 13 ∷ 14 ∷ 15 ∷ 16 ∷ []
unfolding bytes_le
note_in_order = refl
