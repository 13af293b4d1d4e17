-- Runs of equal bits: manual 2.2.3.2, by the functions of its Appendix A.2.
use Rattle.std.specs.Prelude.{ℕ, zero, suc, ◌/◌, ◌%◌, ◌^◌, cond, eqb}

-- x[i]
abbrev pub bit : ℕ → ℕ → ℕ
bit x i = x / 2 ^ i % 2

-- A.2.5, CLO, and A.2.6, CLZ: from bit N-1 down, as many bits as are d before the first that is not. Where all N are d, the
-- manual's loop ends without an answer; it is N.
unfoldable pub leading : ℕ → ℕ → ℕ → ℕ
leading d zero x = 0
leading d (suc n) x = cond (eqb (bit x n) d) (suc (leading d n x)) 0

-- A.2.7, CTO, and A.2.8, CTZ: the same from bit 0 up; what stands above bit 0 is x / 2
unfoldable pub trailing : ℕ → ℕ → ℕ → ℕ
trailing d zero x = 0
trailing d (suc n) x = cond (eqb (x % 2) d) (suc (trailing d n (x / 2))) 0
