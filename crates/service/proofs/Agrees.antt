-- SYSCALL's row by a word's first 17 bits, and that decode says the same of a word.
use mathlib.Core.Path.{◌≡◌, refl, sym, ap, ◌∙◌}
use mathlib.Core.Bool.{Bool, true, false, ◌&&◌}
use Prim.Native.Nat.{ℕ, ◌+◌, ◌*◌, ◌/◌, ◌%◌, ◌^◌, ◌<◌}
use native.Mathlib.Omega.{arith}
use lib.Dec.{eqb}
use borrow.Author.Tests.{eqb-true, eq-eqb}
use Rattle.isa.specs.declared.Instruction.TheVariants as instruction
use Rattle.isa.specs.declared.Operands.{Operands}
use Rattle.isa.specs.declared.Trap.TheVariants.{Syscall}
use Rattle.opcode.specs.Families.{table}
use Rattle.opcode.proofs.Narrow.{leaf}
use Rattle.roundtrip.proofs.RoundTrip.{encoded}
use Rattle.service.specs.Answer.{is_syscall}
use Rattle.service.specs.Syscall.{EveryWordAgrees}

and_true : (b : Bool) → (b && true) ≡ b
and_true true = refl
and_true false = refl

pub first_bits : (w : ℕ) → w < 2 ^ 32 → eqb (w / 2 ^ 15) 0x56 ≡ is_syscall w
unfolding is_syscall
first_bits w h =
    let e : w / 2 ^ 15 % 2 ^ 17 * 2 ^ 0 + 0 ≡ w / 2 ^ 15 = omega arith in
    ap (λ (n : ℕ). eqb n 0x56) (sym e) ∙ sym (and_true (eqb (w / 2 ^ 15 % 2 ^ 17 * 2 ^ 0 + 0) 0x56))

pub agrees : EveryWordAgrees
unfolding table
agrees w h =
    record {
      decodes = λ t. sym (leaf (record { fits = h }) 15 (eqb-true (w / 2 ^ 15) 0x56 (first_bits w h ∙ t)) tt);
      only = λ o d. only o (encoded w (instruction.Trap Syscall o) h d);
    }
  where
    only : (o : Operands) → 0x56 * 2 ^ 15 + (o.imm / 2 ^ 0 % 2 ^ 15 * 2 ^ 0 + 0) ≡ w → is_syscall w ≡ true
    only o e = sym (first_bits w h) ∙ eq-eqb (w / 2 ^ 15) 0x56 (omega arith)
