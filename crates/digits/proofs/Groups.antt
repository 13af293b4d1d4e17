-- Groups of bits in the other order, one group and one part at a time, at every size. Assumes nothing.
use mathlib.Core.Path.{◌≡◌, sym, ap, ◌∙◌, subst}
use Prim.Native.Nat.{ℕ, zero, suc, ◌+◌, ◌*◌, ◌/◌, ◌%◌, ◌^◌, ◌<◌, ◌≤◌}
use native.Mathlib.Omega.{arith}
use native.Mathlib.Nat.{mod-lt, mul-suc, mul-le-mul_left}
use native.Mathlib.Numerals.{add-one}
use lib.Pow.{pow_pos, pow_mono, shl_exact, shr-shr}
use Rattle.word.specs.Word.{low}
use Rattle.word.proofs.Shifts.{joined_lt}
use Rattle.digits.specs.Reverse.{reverse, reverse_each}

next : (a k : ℕ) → a * k + a ≡ a * (k + 1)
next a k = sym (mul-suc a k) ∙ ap (λ (i : ℕ). a * i) (sym (add-one k))

-- one more of m pieces of a bits fits where all m do
pub room : (a m k n : ℕ) → k < m → a * m ≤ n → a * k + a ≤ n
room a m k n h f = let p : a * suc k ≤ a * m = mul-le-mul_left a h in omega (arith, mul-suc a k)

pub reverse_lt : (g m x : ℕ) → reverse g m x < 2 ^ (g * m)
unfolding reverse
reverse_lt g zero x = pow_pos (g * 0)
reverse_lt g (suc m) x = joined_lt (g * m) g (g * suc m) (sym (mul-suc g m)) (reverse_lt g m x) (mod-lt (x / 2 ^ (g * m)) (pow_pos g))

-- before the first turn all of x is left
pub none_yet : (g x : ℕ) → x ≡ x / 2 ^ (g * 0)
none_yet g x = let e : g * 0 ≡ 0 = omega arith in rw e (omega arith)

-- one turn of `reversed`: r has k groups, and y what is above them
module _ (g m x k : ℕ) (h : k < m) (f : g * m ≤ 64) {r y d : ℕ} (er : r ≡ reverse g k x) (ey : y ≡ x / 2 ^ (g * k)) (ed : d ≡ low g y) where
  pub group_in : r * 2 ^ g % 2 ^ 64 + d ≡ reverse g (k + 1) x
  unfolding reverse
  group_in =
      let l : r < 2 ^ (g * k) = subst (λ (i : ℕ). i < 2 ^ (g * k)) (sym er) (reverse_lt g k x) in
      (λ i. shl_exact (g * k) g 64 l (room g m k 64 h f) i + ed i) ∙ (λ i. er i * 2 ^ g + low g (ey i))
      ∙ ap (λ (j : ℕ). reverse g j x) (sym (add-one k))

  pub group_off : y / 2 ^ g ≡ x / 2 ^ (g * (k + 1))
  group_off = ap (λ (i : ℕ). i / 2 ^ g) ey ∙ shr-shr x (g * k) g ∙ ap (λ (i : ℕ). x / 2 ^ i) (next g k)

  pub group_fits : r * 2 ^ g % 2 ^ 64 + d < 2 ^ 64
  group_fits =
      let p : g * (k + 1) ≤ 64 = subst (λ (i : ℕ). i ≤ 64) (next g k) (room g m k 64 h f) in
      let q : 2 ^ (g * (k + 1)) ≤ 2 ^ 64 = pow_mono p in
      omega (arith, group_in, reverse_lt g (k + 1) x)

pub parts_lt : (g m p x : ℕ) → reverse_each g m p x < 2 ^ (g * m * p)
unfolding reverse_each
parts_lt g m zero x = pow_pos (g * m * 0)
parts_lt g m (suc p) x =
    joined_lt (g * m) (g * m * p) (g * m * suc p) (omega (arith, mul-suc (g * m) p)) (reverse_lt g m (x / 2 ^ (g * m * p))) (parts_lt g m p x)

-- one turn of `reversed_each`: r has k parts
module _ (g m p x k : ℕ) (h : k < p) (f : g * m * p ≤ 64) {r d : ℕ} (er : r ≡ reverse_each g m k x) (ed : d ≡ reverse g m (x / 2 ^ (g * m * k))) where
  pub part_in : d * 2 ^ (g * m * k) % 2 ^ 64 + r ≡ reverse_each g m (k + 1) x
  unfolding reverse_each
  part_in =
      let l : d < 2 ^ (g * m) = subst (λ (i : ℕ). i < 2 ^ (g * m)) (sym ed) (reverse_lt g m (x / 2 ^ (g * m * k))) in
      let s : g * m + g * m * k ≤ 64 = omega (arith, room (g * m) p k 64 h f) in
      (λ i. shl_exact (g * m) (g * m * k) 64 l s i + er i) ∙ (λ i. ed i * 2 ^ (g * m * k) + reverse_each g m k x)
      ∙ ap (λ (j : ℕ). reverse_each g m j x) (sym (add-one k))

  pub part_fits : d * 2 ^ (g * m * k) % 2 ^ 64 + r < 2 ^ 64
  part_fits =
      let s : g * m * (k + 1) ≤ 64 = subst (λ (i : ℕ). i ≤ 64) (next (g * m) k) (room (g * m) p k 64 h f) in
      let q : 2 ^ (g * m * (k + 1)) ≤ 2 ^ 64 = pow_mono s in
      omega (arith, part_in, parts_lt g m (k + 1) x)
