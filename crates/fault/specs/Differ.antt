-- A test of a list: no two of it are the same.
use Rattle.std.specs.Prelude.{Bool, true, ◌&&◌, not, List, [], ◌∷◌}

abbrev unlike : {A : Type 0} → (A → A → Bool) → A → List A → Bool
unlike same x [] = true
unlike same x (y ∷ ys) = not (same x y) && unlike same x ys

abbrev pub all_differ : {A : Type 0} → (A → A → Bool) → List A → Bool
all_differ same [] = true
all_differ same (x ∷ xs) = unlike same x xs && all_differ same xs
