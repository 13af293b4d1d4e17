-- "Lowest of 1 to 6 first for a run.": the tests of a run stand in the order of their numbers.
use Rattle.std.specs.Prelude.{ℕ, ◌≡◌, refl, [], ◌∷◌}
use Rattle.place.specs.declared.Window.{Window}
use Rattle.session.specs.declared.Session.{Session}
use Rattle.refuse.specs.Refusals.{order, run_tests}

pub run_order : (code arena : ℕ) (w : Window) (s : Session) (budget : ℕ) → order (run_tests code arena w s budget) ≡ 1 ∷ 2 ∷ 3 ∷ 4 ∷ 5 ∷ 6 ∷ []
run_order code arena w s budget = refl
