-- Where branches, jumps and accesses lead, from their operands: GR[..] is a register, and a field is the word's own number.
use Rattle.std.specs.Prelude.{ℕ, cond, List}
use Rattle.place.specs.declared.GuestAddr.{GuestAddr}
use Rattle.place.specs.Place.{plus_of}
use Rattle.isa.specs.declared.Operands.{Operands}
use Rattle.isa.specs.declared.Branch.{Branch}
use Rattle.isa.specs.declared.ZeroBranch.{ZeroBranch}
use Rattle.isa.specs.declared.Jump.{Jump}
use Rattle.isa.specs.declared.Jump.TheVariants.{B, Bl, Jirl}
use Rattle.registers.specs.Registers.{reg}
use Rattle.control.specs.Control.{taken_of, zero_taken_of, words_on_of, bytes_on_of}

-- PC + 4
abbrev pub next_of : GuestAddr → GuestAddr
next_of pc = plus_of pc 4

-- GR[i] as an address
abbrev pub address_in : List ℕ → ℕ → GuestAddr
address_in gr i = record { 0 = reg gr i }

-- 2.2.4.1: "if .. : PC = PC + SignExtend({offs16, 2'b0}, GRLEN)"
abbrev pub branch_to : Branch → Operands → List ℕ → GuestAddr → GuestAddr
branch_to op o gr pc = cond (taken_of op (reg gr o.rj) (reg gr o.rd)) (words_on_of pc o.imm 18) (next_of pc)

-- 2.2.4.2: "if .. : PC = PC + SignExtend({offs21, 2'b0}, GRLEN)"
abbrev pub zero_branch_to : ZeroBranch → Operands → List ℕ → GuestAddr → GuestAddr
zero_branch_to op o gr pc = cond (zero_taken_of op (reg gr o.rj)) (words_on_of pc o.imm 23) (next_of pc)

-- 2.2.4.3 to 2.2.4.5: "PC = PC + SignExtend({offs26, 2'b0}, GRLEN)"; JIRL: "PC = GR[rj] + SignExtend({offs16, 2'b0}, GRLEN)"
abbrev pub jump_to : Jump → Operands → List ℕ → GuestAddr → GuestAddr
jump_to B o gr pc = words_on_of pc o.imm 28
jump_to Bl o gr pc = words_on_of pc o.imm 28
jump_to Jirl o gr pc = words_on_of (address_in gr o.rj) o.imm 18

-- 2.2.5.1, LD and ST: "vaddr = GR[rj] + SignExtend(si12, GRLEN)"
abbrev pub at_offset : Operands → List ℕ → GuestAddr
at_offset o gr = bytes_on_of (address_in gr o.rj) o.imm

-- 2.2.5.2, LDX and STX: "vaddr = GR[rj] + GR[rk]"
abbrev pub at_index : Operands → List ℕ → GuestAddr
at_index o gr = plus_of (address_in gr o.rj) (reg gr o.rk)

-- 2.2.5.3, LDPTR and STPTR: "vaddr = GR[rj] + SignExtend({si14, 2'b0}, GRLEN)"
abbrev pub at_pointer : Operands → List ℕ → GuestAddr
at_pointer o gr = words_on_of (address_in gr o.rj) o.imm 16
