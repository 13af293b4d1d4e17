-- Register 0 is what it was after any write.
use mathlib.Core.Path.{◌≡◌, refl, sym}
use mathlib.Core.Bool.{Bool, true, false, cond}
use mathlib.Core.List.{List}
use Prim.Native.Nat.{ℕ, ◌%◌}
use lib.Dec.{eqb}
use lib.ListN.{get_or, set}
use lib.Seq.{get_or-set_other}
use borrow.Author.Tests.{eqb-false}
use Rattle.registers.specs.Registers.{reg, written}

pub zero_kept : (gr : List ℕ) (i v : ℕ) → reg (written gr i v) 0 ≡ reg gr 0
unfolding reg written
zero_kept gr i v = go (eqb (i % 32) 0) refl
  where
    go : (t : Bool) → eqb (i % 32) 0 ≡ t → get_or (cond t gr (set gr (i % 32) v)) (0 % 32) 0 ≡ get_or gr (0 % 32) 0
    go true e = refl
    go false e = get_or-set_other gr (i % 32) 0 v 0 (λ (q : 0 ≡ i % 32). eqb-false (i % 32) 0 e (sym q))
