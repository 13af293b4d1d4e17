-- "Writing tests 4, then 14.": the tests of a write stand in the order of their numbers.
use Rattle.std.specs.Prelude.{ℕ, ◌≡◌, refl, [], ◌∷◌}
use Rattle.session.specs.declared.Session.{Session}
use Rattle.refuse.specs.Refusals.{order}
use Rattle.file.specs.Writing.{write_tests}

pub write_order : (s : Session) (room : ℕ) → order (write_tests s room) ≡ 4 ∷ 14 ∷ []
write_order s room = refl
