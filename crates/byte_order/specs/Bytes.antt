-- Little-endian numbers of n bytes in a list of bytes, for every n (01: "All data is little-endian").
use Rattle.std.specs.Prelude.{ℕ, zero, suc, ◌+◌, ◌*◌, ◌/◌, ◌%◌, ◌<◌, List, [], ◌∷◌, get_or, set}

-- the number whose n bytes stand from `at` on, the lowest first
unfoldable pub get_le : ℕ → ℕ → List ℕ → ℕ
get_le zero at s = 0
get_le (suc n) at s = get_or s at 0 + 256 * get_le n (suc at) s

-- s with the n lowest bytes of v from `at` on, the lowest first
unfoldable pub put_le : ℕ → ℕ → ℕ → List ℕ → List ℕ
put_le zero at v s = s
put_le (suc n) at v s = put_le n (suc at) (v / 256) (set s at (v % 256))

-- the n lowest bytes of v as a list, the lowest first
unfoldable pub bytes_le : ℕ → ℕ → List ℕ
bytes_le zero v = []
bytes_le (suc n) v = v % 256 ∷ bytes_le n (v / 256)

-- every element is a byte
abbrev pub AreBytes : List ℕ → Type 0
AreBytes s = (i : ℕ) → get_or s i 0 < 256
