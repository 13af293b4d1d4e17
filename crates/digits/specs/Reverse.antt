-- Groups of bits in the other order: manual 2.2.3.4 to 2.2.3.7 and its Appendix A.2.9.
use Rattle.std.specs.Prelude.{ℕ, zero, suc, ◌+◌, ◌*◌, ◌/◌, ◌^◌}
use Rattle.word.specs.Word.{low}

-- {group 0, group 1, .., group m-1} of the m lowest groups of g bits: the group that was lowest stands highest. With g = 8 it turns
-- the bytes as REVB does, with g = 16 the half-words as REVH does, and with g = 1 the bits as BITREV does.
unfoldable pub reverse : ℕ → ℕ → ℕ → ℕ
reverse g zero x = 0
reverse g (suc m) x = reverse g m x * 2 ^ g + low g (x / 2 ^ (g * m))

-- {tmp(p-1), .., tmp1, tmp0}: each of the p lowest parts of m groups of g bits, reversed in its own place
unfoldable pub reverse_each : ℕ → ℕ → ℕ → ℕ → ℕ
reverse_each g m zero x = 0
reverse_each g m (suc p) x = reverse g m (x / 2 ^ (g * m * p)) * 2 ^ (g * m * p) + reverse_each g m p x
