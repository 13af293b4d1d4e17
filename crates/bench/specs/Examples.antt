-- 01's own example, and input that is empty or no code. All rows stand under one theorem, proofs/Examples' `as_typed`.
use Rattle.std.specs.Prelude.{ℕ, List, [], ◌∷◌}
use Prim.Native.String.{String}

pub record Row : Type 0 where
  pub input : List ℕ
  pub text : String

abbrev row : List ℕ → String → Row
row input text = record { input = input; text = text }

abbrev pub rows : List Row
rows =
    -- "addi.d r4, r0, 7; slli.d r5, r4, 3; syscall 0"
    row (0x04 ∷ 0x1c ∷ 0xc0 ∷ 0x02 ∷ 0x85 ∷ 0x0c ∷ 0x41 ∷ 0x00 ∷ 0x00 ∷ 0x00 ∷ 0x2b ∷ 0x00 ∷ [])
    "stop 11 0 0000000000000000\nsteps 2\npc 0000000000010008\nr4 0000000000000007\nr5 0000000000000038\n"
    ∷ row [] "stop 8 0 0000000000010000\nsteps 0\npc 0000000000010000\n"
    ∷ row (0x04 ∷ 0x1c ∷ 0xc0 ∷ 0x02 ∷ 0x85 ∷ 0x0c ∷ []) "refused 1\n"
    ∷ []
