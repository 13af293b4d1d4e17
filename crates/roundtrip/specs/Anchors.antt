-- 01's twenty anchor words are rows of the table, and every row has a word: two tests that the definitions compute.
use Rattle.std.specs.Prelude.{◌≡◌, refl, Bool, true, false, ◌&&◌, List, [], ◌∷◌, ℕ, Option, Some, None}
use Rattle.isa.specs.Format.{word_of}
use Rattle.opcode.specs.Families.{Entry, table}
use Rattle.opcode.specs.Decode.{decode_of}
use Rattle.roundtrip.specs.Encode.{with_code}
use Rattle.isa.specs.declared.Operands.{Operands}
use Rattle.isa.specs.declared.FieldOperands.{FieldOperands}
use Rattle.isa.specs.declared.Instruction.{Instruction}
use Rattle.isa.specs.declared.Instruction.TheVariants as instruction
use Rattle.digits.specs.declared.Unary.TheVariants.{CloW}
use Rattle.isa.specs.declared.Assert.TheVariants.{AsrtleD}
use Rattle.alu.specs.declared.Alsl.TheVariants.{AlslW}
use Rattle.fields.specs.declared.Bytepick.TheVariants.{BytepickD}
use Rattle.alu.specs.declared.Alu.TheVariants.{AddW, AddD}
use Rattle.quotient.specs.declared.Division.TheVariants.{DivW}
use Rattle.isa.specs.declared.Trap.TheVariants.{Break, Syscall}
use Rattle.shift.specs.declared.Shift.TheVariants.{SllD}
use Rattle.fields.specs.declared.Field.TheVariants.{BstrinsW}
use Rattle.alu.specs.declared.Immediate.TheVariants.{AddiD}
use Rattle.alu.specs.declared.Upper.TheVariants.{Lu12iW}
use Rattle.isa.specs.declared.Pointer.TheVariants.{LdptrW}
use Rattle.isa.specs.declared.Load.TheVariants.{LdB}
use Rattle.isa.specs.declared.ZeroBranch.TheVariants.{Beqz}
use Rattle.isa.specs.declared.Jump.TheVariants.{Jirl, B}
use Rattle.isa.specs.declared.Branch.TheVariants.{Beq}

-- operands that are all 0
abbrev none : Operands
none = record { rd = 0; rj = 0; rk = 0; imm = 0 }

abbrev no_field : FieldOperands
no_field = record { rd = 0; rj = 0; lsb = 0; msb = 0 }

pub data Anchor : Type 0 where
  at : ℕ → Instruction → Anchor

-- each word decodes to the instruction beside it
abbrev pub Hold : List Anchor → Type 0
Hold [] = Unit
Hold (at w i ∷ rest) = (decode_of w ≡ Some i) × Hold rest

-- 01, "Which instructions", in its order
abbrev pub anchors : List Anchor
anchors =
    at 0x00001000 (instruction.Unary CloW none)
    ∷ at 0x00010000 (instruction.Assert AsrtleD none)
    ∷ at 0x00040000 (instruction.Alsl AlslW none)
    ∷ at 0x000C0000 (instruction.Bytepick BytepickD none)
    ∷ at 0x00100000 (instruction.Alu AddW none)
    ∷ at 0x00108000 (instruction.Alu AddD none)
    ∷ at 0x00200000 (instruction.Division DivW none)
    ∷ at 0x002A0000 (instruction.Trap Break none)
    ∷ at 0x002B0000 (instruction.Trap Syscall none)
    ∷ at 0x00410000 (instruction.ShiftImmediate SllD none)
    ∷ at 0x00600000 (instruction.Field BstrinsW no_field)
    ∷ at 0x02C00000 (instruction.Immediate AddiD none)
    ∷ at 0x14000000 (instruction.Upper Lu12iW none)
    ∷ at 0x24000000 (instruction.Pointer LdptrW none)
    ∷ at 0x28000000 (instruction.Load LdB none)
    ∷ at 0x38000000 (instruction.LoadIndexed LdB none)
    ∷ at 0x40000000 (instruction.ZeroBranch Beqz none)
    ∷ at 0x4C000000 (instruction.Jump Jirl none)
    ∷ at 0x50000000 (instruction.Jump B none)
    ∷ at 0x58000000 (instruction.Branch Beq none)
    ∷ []

pub hold : Hold anchors
unfolding table decode_of
hold = (refl, (refl, (refl, (refl, (refl, (refl, (refl, (refl, (refl, (refl, (refl, (refl, (refl, (refl, (refl, (refl, (refl, (refl, (refl, (refl, tt))))))))))))))))))))

abbrev is_known : Option Instruction → Bool
is_known (Some i) = true
is_known None = false

-- the word of each row with operands that are all 0 exists
abbrev pub all_exist : List Entry → Bool
all_exist [] = true
all_exist (e ∷ es) = is_known (decode_of (word_of e.row.format.pieces (with_code e.row.code (λ q. 0)))) && all_exist es

pub exist : all_exist table ≡ true
unfolding table decode_of
exist = refl
