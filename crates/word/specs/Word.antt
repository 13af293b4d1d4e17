-- The words in which every value is said: the bits of a number, and a number read as signed.
-- A register holds a number below 2 ^ 64. `x[k-1:0]` and the like are the manual's own notation (Appendix A.1).
use Rattle.std.specs.Prelude.{ℕ, suc, ◌+◌, ◌-◌, ◌%◌, ◌^◌, Bool, cond, ℤ, pos, negsuc, ◌-ℤ◌, int_lt, nat_lt}

-- x[k-1:0], the low k bits of a number
abbrev pub low : ℕ → ℕ → ℕ
low k x = x % 2 ^ k

-- z[k-1:0] of a whole number z: its remainder modulo 2 ^ k, which is never negative
abbrev pub cut : ℕ → ℤ → ℕ
cut k (pos n) = n % 2 ^ k
cut k (negsuc n) = 2 ^ k - suc (n % 2 ^ k)

-- SignExtend(n, 64) of a number n of k bits: where bit k-1 is set, all bits above are set too
abbrev pub sext_of : ℕ → ℕ → ℕ
sext_of k n = cond (nat_lt n (2 ^ (k - 1))) n (n + (2 ^ 64 - 2 ^ k))

-- SignExtend(x[k-1:0], 64)
abbrev pub sext : ℕ → ℕ → ℕ
sext k x = sext_of k (low k x)

-- signed(n) of a number n of k bits: where bit k-1 is set, the number n - 2 ^ k
abbrev pub signed_of : ℕ → ℕ → ℤ
signed_of k n = cond (nat_lt n (2 ^ (k - 1))) (pos n) (negsuc (2 ^ k - suc n))

-- signed(x[k-1:0])
abbrev pub signed : ℕ → ℕ → ℤ
signed k x = signed_of k (low k x)

-- ADD.D (2.2.1.1): tmp = GR[rj][63:0] + GR[rk][63:0]; GR[rd] = tmp[63:0].
-- 01: "Sums of addresses are modulo 2^64."
abbrev pub add_d : ℕ → ℕ → ℕ
add_d rj rk = (rj + rk) % 2 ^ 64

-- SUB.D (2.2.1.1): tmp = GR[rj][63:0] - GR[rk][63:0]; GR[rd] = tmp[63:0]
abbrev pub sub_d : ℕ → ℕ → ℕ
sub_d rj rk = cut 64 (pos rj -ℤ pos rk)

-- signed(GR[rj]) < signed(GR[rk]), as SLT (2.2.1.5) and the signed branches (2.2.4) compare
abbrev pub less : ℕ → ℕ → Bool
less rj rk = int_lt (signed 64 rj) (signed 64 rk)
