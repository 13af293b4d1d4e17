-- The answer's own test for SYSCALL agrees with decode, in both directions. The proof is in proofs/Agrees.antt.
use Rattle.std.specs.Prelude.{ℕ, ◌^◌, ◌<◌, ◌≡◌, true, Some}
use Rattle.isa.specs.Format.{values}
use Rattle.isa.specs.Operands.{operands}
use Rattle.isa.specs.declared.Instruction.TheVariants as instruction
use Rattle.isa.specs.declared.Operands.{Operands}
use Rattle.isa.specs.declared.Trap.TheVariants.{Syscall}
use Rattle.opcode.specs.Table.{trap_row}
use Rattle.opcode.specs.Decode.{decode_of}
use Rattle.service.specs.Answer.{is_syscall}

pub record AgreesWithDecode (word : ℕ) : Type 0 where
  -- where the test says so, the word decodes to SYSCALL with the word's own operands
  pub decodes : is_syscall word ≡ true → decode_of word ≡ Some (instruction.Trap Syscall (operands (values (trap_row Syscall).format word)))
  -- and where the word decodes to a SYSCALL, the test says so
  pub only : (o : Operands) → decode_of word ≡ Some (instruction.Trap Syscall o) → is_syscall word ≡ true

abbrev pub EveryWordAgrees : Type 0
EveryWordAgrees = (word : ℕ) → word < 2 ^ 32 → AgreesWithDecode word
