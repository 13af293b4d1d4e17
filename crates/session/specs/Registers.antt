-- Registers written out, for worked examples.
use Rattle.std.specs.Prelude.{ℕ, List, [], ◌∷◌, set, replicate}

-- a register and its value; all that are not named are 0
pub record Value : Type 0 where
  pub register : ℕ
  pub value : ℕ

abbrev pub r : ℕ → ℕ → Value
r i v = record { register = i; value = v }

abbrev pub registers : List Value → List ℕ
registers [] = replicate 32 0
registers (x ∷ xs) = set (registers xs) x.register x.value
