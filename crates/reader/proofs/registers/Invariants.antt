-- `reader::registers` meets its contract.
use Rattle.std.proofs.Common.{◌≡◌, ◌+◌, ◌*◌, ◌-◌, ◌∷◌, ◌++◌, length, take}
use Rattle.file.specs.Format.{numbers_at}
use Rattle.reader.proofs.registers.Given as goal

-- those that are read and those that are not yet are all of them
abbrev pub invariant-loop-i : goal.invariant-loop-i
invariant-loop-i l =
    (take (l.i + 1) l.regs ++ numbers_at (31 - l.i) (l.at + 8 * l.i) l.file ≡ 0 ∷ numbers_at 31 l.at l.file) × (length l.regs ≡ 32)
