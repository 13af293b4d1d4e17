-- Numbers and words as text: lists of ASCII codes.
use Rattle.std.specs.Prelude.{ℕ, zero, suc, ◌+◌, ◌/◌, ◌%◌, cond, List, [], ◌∷◌, ◌++◌, ltb}
use Prim.Native.Char.{code}
use Prim.Native.String.{String}
use Prim.Native.String.{[] as none, ◌∷◌ as ◌before◌}

-- a text's codes
abbrev pub ascii : String → List ℕ
ascii none = []
ascii (c before s) = code c ∷ ascii s

-- the code of a digit: 0 to 9, then a to f
abbrev pub glyph_of : ℕ → ℕ
glyph_of d = cond (ltb d 10) (48 + d) (87 + d)

-- the last k digits of n in a base, the highest first
unfoldable pub digits : ℕ → ℕ → ℕ → List ℕ
digits base zero n = []
digits base (suc k) n = digits base k (n / base) ++ glyph_of (n % base) ∷ []

-- how many decimal digits n has, counted in at most `turns` divisions
unfoldable pub places : ℕ → ℕ → ℕ
places zero n = 1
places (suc turns) n = cond (ltb n 10) 1 (suc (places turns (n / 10)))

-- "in decimal": no digit too many. 19 divisions are enough, since a number of 64 bits has 20 digits at most.
unfoldable pub decimal : ℕ → List ℕ
decimal n = digits 10 (places 19 n) n

-- "in 16 hex digits"
unfoldable pub hex16 : ℕ → List ℕ
hex16 n = digits 16 16 n
