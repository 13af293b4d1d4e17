-- What each instruction asks for, in the manual's order: 2.2.1 to 2.2.5, 2.2.8, 2.2.10. A row is a family; what an operation of the
-- family computes is found by its mnemonic in the family's own definition (`alu_of AddW`, `taken_of Beq`, `load_width_of LdB`, ..).
-- `gr` are the registers. A register is named by its field and a field is the word's own number.
use Rattle.std.specs.Prelude.{ℕ, cond, List}
use Rattle.alu.specs.Alu.{alu_of}
use Rattle.alu.specs.Immediate.{immediate_of}
use Rattle.alu.specs.Upper.{upper_of}
use Rattle.alu.specs.Alsl.{alsl_of}
use Rattle.product.specs.Product.{product_of}
use Rattle.quotient.specs.Quotient.{division_of}
use Rattle.shift.specs.Shift.{shift_of}
use Rattle.digits.specs.Unary.{unary_of}
use Rattle.fields.specs.Bytepick.{bytepick_of}
use Rattle.fields.specs.Field.{field_of}
use Rattle.isa.specs.declared.Instruction.{Instruction}
use Rattle.isa.specs.declared.Jump.TheVariants.{B, Bl, Jirl}
use Rattle.isa.specs.declared.Load.TheVariants.{LdW, LdD}
use Rattle.isa.specs.declared.Pointer.TheVariants.{LdptrW, LdptrD, StptrW, StptrD}
use Rattle.isa.specs.declared.Trap.{Trap}
use Rattle.isa.specs.declared.Trap.TheVariants.{Syscall, Break}
use Rattle.place.specs.declared.GuestAddr.{GuestAddr}
use Rattle.place.specs.declared.Width.TheVariants.{Word, Double}
use Rattle.registers.specs.Registers.{reg}
use Rattle.fault.specs.declared.Fault.{Fault}
use Rattle.control.specs.Control.{passes_of, config_of}
use Rattle.memory.specs.Memory.{store_width_of}
use Rattle.operate.specs.Operate.{next_of, branch_to, zero_branch_to, jump_to, at_offset, at_index, at_pointer}
use Rattle.effect.specs.declared.Effect.{Effect}

-- 01, "Stops": SYSCALL and BREAK carry their 15-bit code
abbrev pub trap_of : Trap → ℕ → Fault
trap_of Syscall code = Fault.Syscall code
trap_of Break code = Fault.Break code

unfoldable pub effect_of : Instruction → List ℕ → GuestAddr → Effect
-- 2.2.1, arithmetic
effect_of (Instruction.Alu op o) gr pc = Effect.Write o.rd (alu_of op (reg gr o.rj) (reg gr o.rk)) (next_of pc)
effect_of (Instruction.Product op o) gr pc = Effect.Write o.rd (product_of op (reg gr o.rj) (reg gr o.rk)) (next_of pc)
effect_of (Instruction.Division op o) gr pc = Effect.Write o.rd (division_of op (reg gr o.rj) (reg gr o.rk)) (next_of pc)
effect_of (Instruction.Immediate op o) gr pc = Effect.Write o.rd (immediate_of op (reg gr o.rj) o.imm) (next_of pc)
effect_of (Instruction.Upper op o) gr pc = Effect.Write o.rd (upper_of op (reg gr o.rd) pc.0 o.imm) (next_of pc)
effect_of (Instruction.Alsl op o) gr pc = Effect.Write o.rd (alsl_of op (reg gr o.rj) (reg gr o.rk) o.imm) (next_of pc)
-- 2.2.2, shifts
effect_of (Instruction.Shift op o) gr pc = Effect.Write o.rd (shift_of op (reg gr o.rj) (reg gr o.rk)) (next_of pc)
effect_of (Instruction.ShiftImmediate op o) gr pc = Effect.Write o.rd (shift_of op (reg gr o.rj) o.imm) (next_of pc)
-- 2.2.3, bits
effect_of (Instruction.Unary op o) gr pc = Effect.Write o.rd (unary_of op (reg gr o.rj)) (next_of pc)
effect_of (Instruction.Bytepick op o) gr pc = Effect.Write o.rd (bytepick_of op (reg gr o.rj) (reg gr o.rk) o.imm) (next_of pc)
effect_of (Instruction.Field op o) gr pc = Effect.Write o.rd (field_of op (reg gr o.rd) (reg gr o.rj) o.msb o.lsb) (next_of pc)
-- 2.2.4, branches. BL: "GR[1] = PC + 4"; JIRL: "GR[rd] = PC + 4", and it "reads rj before it writes rd" (01): the target is made of the
-- registers as they were
effect_of (Instruction.Branch op o) gr pc = Effect.Jump (branch_to op o gr pc)
effect_of (Instruction.ZeroBranch op o) gr pc = Effect.Jump (zero_branch_to op o gr pc)
effect_of (Instruction.Jump B o) gr pc = Effect.Jump (jump_to B o gr pc)
effect_of (Instruction.Jump Bl o) gr pc = Effect.Write 1 (next_of pc).0 (jump_to Bl o gr pc)
effect_of (Instruction.Jump Jirl o) gr pc = Effect.Write o.rd (next_of pc).0 (jump_to Jirl o gr pc)
-- 2.2.5, accesses
effect_of (Instruction.Load op o) gr pc = Effect.Load op o.rd (at_offset o gr)
effect_of (Instruction.Store op o) gr pc = Effect.Store (store_width_of op) (reg gr o.rd) (at_offset o gr)
effect_of (Instruction.LoadIndexed op o) gr pc = Effect.Load op o.rd (at_index o gr)
effect_of (Instruction.StoreIndexed op o) gr pc = Effect.Store (store_width_of op) (reg gr o.rd) (at_index o gr)
effect_of (Instruction.Pointer LdptrW o) gr pc = Effect.Load LdW o.rd (at_pointer o gr)
effect_of (Instruction.Pointer LdptrD o) gr pc = Effect.Load LdD o.rd (at_pointer o gr)
effect_of (Instruction.Pointer StptrW o) gr pc = Effect.Store Word (reg gr o.rd) (at_pointer o gr)
effect_of (Instruction.Pointer StptrD o) gr pc = Effect.Store Double (reg gr o.rd) (at_pointer o gr)
-- 01: "PRELD, PRELDX, DBAR, IBAR do nothing but advance pc; no address is checked."
effect_of (Instruction.Preload op o) gr pc = Effect.Jump (next_of pc)
effect_of (Instruction.Barrier op o) gr pc = Effect.Jump (next_of pc)
-- 2.2.10, the others
effect_of (Instruction.Trap op o) gr pc = Effect.Raise (trap_of op o.imm)
effect_of (Instruction.Assert op o) gr pc = cond (passes_of op (reg gr o.rj) (reg gr o.rk)) (Effect.Jump (next_of pc)) (Effect.Raise Fault.Bce)
effect_of (Instruction.Config op o) gr pc = Effect.Write o.rd (config_of op (reg gr o.rj)) (next_of pc)
