-- What holds of every step, for all code, registers, pc, windows and arenas (01, "Stops"). The proofs are in proofs/.
use Rattle.std.specs.Prelude.{ℕ, ◌+◌, ◌-◌, ◌%◌, ◌≤◌, ◌≡◌, Bool, true, false, List, length, get_or, Some, None, Err}
use Rattle.place.specs.declared.GuestAddr.{GuestAddr}
use Rattle.place.specs.Place.{Inside, code_base}
use Rattle.byte_order.specs.Bytes.{get_le}
use Rattle.isa.specs.declared.Instruction.{Instruction}
use Rattle.opcode.specs.Decode.{decode_of}
use Rattle.registers.specs.Registers.{reg}
use Rattle.fault.specs.declared.Fault.{Fault}
use Rattle.fault.specs.declared.Fault.TheVariants.{Adef, Adem, Ale, Bce, Syscall, Break, Ine}
use Rattle.apply.specs.Machine.{Ground, State, Ended}
use Rattle.cpu.specs.Step.{step_of}

-- a property of a step: of what it stands on, of what it starts from, and of what it leaves
abbrev pub EveryStep : (Ground → State → Ended → Type 0) → Type 0
EveryStep P = (g : Ground) (s : State) → P g s (step_of g s)

-- "A raising instruction changes nothing, pc included"
abbrev pub RaisingChangesNothing : Type 0
RaisingChangesNothing = EveryStep (λ g s e. (f : Fault) → e.end ≡ Err f → e.state ≡ s)

-- "Register 0 is always zero"
abbrev pub ZeroStays : Type 0
ZeroStays = EveryStep (λ g s e. reg s.regs 0 ≡ 0 → reg e.state.regs 0 ≡ 0)

-- the arena's length is kept
abbrev pub LengthStays : Type 0
LengthStays = EveryStep (λ g s e. length e.state.arena ≡ length s.arena)

-- no byte outside the window changes
abbrev pub OutsideStays : Type 0
OutsideStays = EveryStep (λ g s e. (i : ℕ) → (Inside g.window i → ⊥) → get_or e.state.arena i 0 ≡ get_or s.arena i 0)

-- the pc is a multiple of 4 inside code
abbrev pub InCode : List ℕ → GuestAddr → Type 0
InCode code pc = (pc.0 % 4 ≡ 0) × (code_base ≤ pc.0) × (pc.0 + 4 ≤ code_base + length code)

-- the word there
abbrev pub word_at : List ℕ → GuestAddr → ℕ
word_at code pc = get_le 4 (pc.0 - code_base) code

-- ADEF everywhere else: it carries the pc
abbrev pub AdefRaised : Type 0
AdefRaised = EveryStep (λ g s e. (InCode g.code s.pc → ⊥) → e.end ≡ Err (Adef s.pc))

-- and ADEF nowhere inside code
abbrev pub AdefOnly : Type 0
AdefOnly = EveryStep (λ g s e. (a : GuestAddr) → e.end ≡ Err (Adef a) → (InCode g.code s.pc → ⊥) × (a ≡ s.pc))

-- INE where decoding says that there is no such instruction: it carries the word there
abbrev pub IneRaised : Type 0
IneRaised =
    EveryStep
    (λ g s e. InCode g.code s.pc → decode_of (word_at g.code s.pc) ≡ None → e.end ≡ Err (Ine (word_at g.code s.pc)))

-- and INE nowhere else inside code
abbrev pub IneOnly : Type 0
IneOnly =
    EveryStep
    (λ g s e. InCode g.code s.pc → (x : ℕ) → e.end ≡ Err (Ine x)
    → (decode_of (word_at g.code s.pc) ≡ None) × (x ≡ word_at g.code s.pc))

-- what is raised before an instruction executes
abbrev pub early : Fault → Bool
early (Adef pc) = true
early (Ine word) = true
early (Adem a) = false
early (Ale a) = false
early Bce = false
early (Syscall code) = false
early (Break code) = false

-- an instruction that exists raises neither INE nor ADEF
abbrev pub ExistingIsLate : Type 0
ExistingIsLate =
    EveryStep
    (λ g s e. (i : Instruction) (f : Fault) → InCode g.code s.pc → decode_of (word_at g.code s.pc) ≡ Some i
    → e.end ≡ Err f → early f ≡ false)
