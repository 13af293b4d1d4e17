-- What a word is: the instruction of the row that has it, or none. Manual 1.2 and Appendix B; 01, "Decoding gives the instruction, or 'no
-- such instruction'".
use Rattle.std.specs.Prelude.{ℕ, ◌≡◌, Bool, cond, ◌&&◌, List, [], ◌∷◌, eqb, Option, Some, None}
use Rattle.isa.specs.Format.{opcode, values}
use Rattle.opcode.specs.Table.{Row}
use Rattle.isa.specs.declared.Instruction.{Instruction}
use Rattle.opcode.specs.Families.{Entry, table}

-- a row has a word: the word's opcode is the row's, and the format allows its operands
abbrev pub has : Row → ℕ → Bool
has r w = eqb (values r.format w opcode) r.code && r.format.allows (values r.format w)

-- the instruction of the first row that has the word
abbrev pub decode_in : List Entry → ℕ → Option Instruction
decode_in [] w = None
decode_in (e ∷ es) w = cond (has e.row w) (Some (e.make (values e.row.format w))) (decode_in es w)

unfoldable pub decode_of : ℕ → Option Instruction
decode_of w = decode_in table w

-- the promise of `decode`
abbrev pub Decodes : ℕ → Option Instruction → Type 0
Decodes w r = r ≡ decode_of w
