-- The registers that a loop has read, and those that it has still to read.
use Rattle.std.proofs.Common.{◌≡◌, sym, arith, ℕ, suc, ◌+◌, ◌*◌, ◌-◌, ◌≤◌, ◌<◌, List, ◌++◌, length, take, set}
use Rattle.std.proofs.lemmas.List.{append-nil}
use lib.Seq.{take-suc-set, take_all, append_snoc}
use Rattle.byte_order.specs.Bytes.{get_le}
use Rattle.file.specs.Format.{numbers_at}

-- one turn
pub numbers_turn : (rs f : List ℕ) (i n at : ℕ) → i + 1 < length rs → i < n
    → take (i + 1 + 1) (set rs (i + 1) (get_le 8 (at + 8 * i) f)) ++ numbers_at (n - (i + 1)) (at + 8 * (i + 1)) f
    ≡ take (i + 1) rs ++ numbers_at (n - i) (at + 8 * i) f
unfolding numbers_at
numbers_turn rs f i n at h k =
    let e : n - i ≡ suc (n - (i + 1)) = omega arith in
    let next : at + 8 * (i + 1) ≡ at + 8 * i + 8 = omega arith in
    let one : i + 1 + 1 ≡ suc (i + 1) = omega arith in
    rw (e, next, one, take-suc-set rs (i + 1) (get_le 8 (at + 8 * i) f) h)
    (append_snoc (take (i + 1) rs) (get_le 8 (at + 8 * i) f) (numbers_at (n - (i + 1)) (at + 8 * i + 8) f))

-- none is left
pub numbers_done : (rs f : List ℕ) (i n at : ℕ) → length rs ≤ i + 1 → n ≤ i → rs ≡ take (i + 1) rs ++ numbers_at (n - i) at f
unfolding numbers_at
numbers_done rs f i n at h k =
    let e : n - i ≡ 0 = omega arith in
    rw (e, append-nil (take (i + 1) rs)) (sym (take_all (i + 1) rs h))
