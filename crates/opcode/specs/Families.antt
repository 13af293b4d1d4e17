-- The instructions that are built, family by family. 01, "Which instructions": manual 2.2.1 to 2.2.5, DBAR, IBAR,
-- SYSCALL, BREAK, ASRTLE.D, ASRTGT.D, CPUCFG.
use Rattle.std.specs.Prelude.{ℕ, List, [], ◌∷◌, ◌++◌}
use Rattle.isa.specs.Format.{Part}
use Rattle.opcode.specs.Table.{Row, alu_row, product_row, division_row, shift_row, shift_immediate_row, immediate_row, upper_row, alsl_row, bytepick_row, unary_row, field_row, branch_row, zero_branch_row, jump_row, load_row, load_indexed_row, store_row, store_indexed_row, pointer_row, preload_row, barrier_row, trap_row, assert_row, config_row}
use Rattle.isa.specs.Operands.{operands, field_operands, hint_operands}
use Rattle.isa.specs.declared.Instruction.{Instruction}
use Rattle.isa.specs.declared.Instruction.TheVariants as instruction
use Rattle.alu.specs.declared.Alu.{Alu}
use Rattle.alu.specs.declared.Alu.TheVariants.{AddW, AddD, SubW, SubD, Slt, Sltu, And, Or, Nor, Xor, Andn, Orn, Maskeqz, Masknez}
use Rattle.product.specs.declared.Product.{Product}
use Rattle.product.specs.declared.Product.TheVariants.{MulW, MulD, MulhW, MulhWu, MulhD, MulhDu, MulwDW, MulwDWu}
use Rattle.quotient.specs.declared.Division.{Division}
use Rattle.quotient.specs.declared.Division.TheVariants.{DivW, ModW, DivWu, ModWu, DivD, ModD, DivDu, ModDu}
use Rattle.shift.specs.declared.Shift.{Shift}
use Rattle.shift.specs.declared.Shift.TheVariants.{SllW, SrlW, SraW, RotrW, SllD, SrlD, SraD, RotrD}
use Rattle.alu.specs.declared.Immediate.{Immediate}
use Rattle.alu.specs.declared.Immediate.TheVariants.{AddiW, AddiD, Addu16iD, Slti, Sltui, Lu52iD, Andi, Ori, Xori}
use Rattle.alu.specs.declared.Upper.{Upper}
use Rattle.alu.specs.declared.Upper.TheVariants.{Lu12iW, Lu32iD, Pcaddi, Pcaddu12i, Pcaddu18i, Pcalau12i}
use Rattle.alu.specs.declared.Alsl.{Alsl}
use Rattle.alu.specs.declared.Alsl.TheVariants.{AlslW, AlslWu, AlslD}
use Rattle.fields.specs.declared.Bytepick.{Bytepick}
use Rattle.fields.specs.declared.Bytepick.TheVariants.{BytepickW, BytepickD}
use Rattle.digits.specs.declared.Unary.{Unary}
use Rattle.digits.specs.declared.Unary.TheVariants.{ExtWB, ExtWH, CloW, CloD, ClzW, ClzD, CtoW, CtoD, CtzW, CtzD, Revb2h, Revb4h, Revb2w, RevbD, Revh2w, RevhD, Bitrev4b, Bitrev8b, BitrevW, BitrevD}
use Rattle.fields.specs.declared.Field.{Field}
use Rattle.fields.specs.declared.Field.TheVariants.{BstrinsW, BstrinsD, BstrpickW, BstrpickD}
use Rattle.isa.specs.declared.Branch.{Branch}
use Rattle.isa.specs.declared.Branch.TheVariants.{Beq, Bne, Blt, Bge, Bltu, Bgeu}
use Rattle.isa.specs.declared.ZeroBranch.{ZeroBranch}
use Rattle.isa.specs.declared.ZeroBranch.TheVariants.{Beqz, Bnez}
use Rattle.isa.specs.declared.Jump.{Jump}
use Rattle.isa.specs.declared.Jump.TheVariants.{B, Bl, Jirl}
use Rattle.isa.specs.declared.Load.{Load}
use Rattle.isa.specs.declared.Load.TheVariants.{LdB, LdH, LdW, LdD, LdBu, LdHu, LdWu}
use Rattle.isa.specs.declared.Store.{Store}
use Rattle.isa.specs.declared.Store.TheVariants.{StB, StH, StW, StD}
use Rattle.isa.specs.declared.Pointer.{Pointer}
use Rattle.isa.specs.declared.Pointer.TheVariants.{LdptrW, LdptrD, StptrW, StptrD}
use Rattle.isa.specs.declared.Preload.{Preload}
use Rattle.isa.specs.declared.Preload.TheVariants.{Preld, Preldx}
use Rattle.isa.specs.declared.Barrier.{Barrier}
use Rattle.isa.specs.declared.Barrier.TheVariants.{Dbar, Ibar}
use Rattle.isa.specs.declared.Trap.{Trap}
use Rattle.isa.specs.declared.Trap.TheVariants.{Syscall, Break}
use Rattle.isa.specs.declared.Assert.{Assert}
use Rattle.isa.specs.declared.Assert.TheVariants.{AsrtleD, AsrtgtD}
use Rattle.isa.specs.declared.Config.{Config}
use Rattle.isa.specs.declared.Config.TheVariants.{Cpucfg}

-- operations that make one kind of instruction
pub record Family : Type 1 where
  pub Op : Type 0
  pub ops : List Op
  pub row : Op → Row
  pub make : Op → (Part → ℕ) → Instruction

abbrev pub alu : Family
alu = record { Op = Alu; ops = AddW ∷ AddD ∷ SubW ∷ SubD ∷ Slt ∷ Sltu ∷ And ∷ Or ∷ Nor ∷ Xor ∷ Andn ∷ Orn ∷ Maskeqz ∷ Masknez ∷ []; row = alu_row; make = λ op x. instruction.Alu op (operands x) }

abbrev pub product : Family
product = record { Op = Product; ops = MulW ∷ MulD ∷ MulhW ∷ MulhWu ∷ MulhD ∷ MulhDu ∷ MulwDW ∷ MulwDWu ∷ []; row = product_row; make = λ op x. instruction.Product op (operands x) }

abbrev pub division : Family
division = record { Op = Division; ops = DivW ∷ ModW ∷ DivWu ∷ ModWu ∷ DivD ∷ ModD ∷ DivDu ∷ ModDu ∷ []; row = division_row; make = λ op x. instruction.Division op (operands x) }

abbrev pub shift : Family
shift = record { Op = Shift; ops = SllW ∷ SrlW ∷ SraW ∷ RotrW ∷ SllD ∷ SrlD ∷ SraD ∷ RotrD ∷ []; row = shift_row; make = λ op x. instruction.Shift op (operands x) }

abbrev pub shift_immediate : Family
shift_immediate = record { Op = Shift; ops = SllW ∷ SrlW ∷ SraW ∷ RotrW ∷ SllD ∷ SrlD ∷ SraD ∷ RotrD ∷ []; row = shift_immediate_row; make = λ op x. instruction.ShiftImmediate op (operands x) }

abbrev pub immediate : Family
immediate = record { Op = Immediate; ops = AddiW ∷ AddiD ∷ Addu16iD ∷ Slti ∷ Sltui ∷ Lu52iD ∷ Andi ∷ Ori ∷ Xori ∷ []; row = immediate_row; make = λ op x. instruction.Immediate op (operands x) }

abbrev pub upper : Family
upper = record { Op = Upper; ops = Lu12iW ∷ Lu32iD ∷ Pcaddi ∷ Pcaddu12i ∷ Pcaddu18i ∷ Pcalau12i ∷ []; row = upper_row; make = λ op x. instruction.Upper op (operands x) }

abbrev pub alsl : Family
alsl = record { Op = Alsl; ops = AlslW ∷ AlslWu ∷ AlslD ∷ []; row = alsl_row; make = λ op x. instruction.Alsl op (operands x) }

abbrev pub bytepick : Family
bytepick = record { Op = Bytepick; ops = BytepickW ∷ BytepickD ∷ []; row = bytepick_row; make = λ op x. instruction.Bytepick op (operands x) }

abbrev pub unary : Family
unary = record { Op = Unary; ops = ExtWB ∷ ExtWH ∷ CloW ∷ CloD ∷ ClzW ∷ ClzD ∷ CtoW ∷ CtoD ∷ CtzW ∷ CtzD ∷ Revb2h ∷ Revb4h ∷ Revb2w ∷ RevbD ∷ Revh2w ∷ RevhD ∷ Bitrev4b ∷ Bitrev8b ∷ BitrevW ∷ BitrevD ∷ []; row = unary_row; make = λ op x. instruction.Unary op (operands x) }

abbrev pub field : Family
field = record { Op = Field; ops = BstrinsW ∷ BstrinsD ∷ BstrpickW ∷ BstrpickD ∷ []; row = field_row; make = λ op x. instruction.Field op (field_operands x) }

abbrev pub branch : Family
branch = record { Op = Branch; ops = Beq ∷ Bne ∷ Blt ∷ Bge ∷ Bltu ∷ Bgeu ∷ []; row = branch_row; make = λ op x. instruction.Branch op (operands x) }

abbrev pub zero_branch : Family
zero_branch = record { Op = ZeroBranch; ops = Beqz ∷ Bnez ∷ []; row = zero_branch_row; make = λ op x. instruction.ZeroBranch op (operands x) }

abbrev pub jump : Family
jump = record { Op = Jump; ops = B ∷ Bl ∷ Jirl ∷ []; row = jump_row; make = λ op x. instruction.Jump op (operands x) }

abbrev pub load : Family
load = record { Op = Load; ops = LdB ∷ LdH ∷ LdW ∷ LdD ∷ LdBu ∷ LdHu ∷ LdWu ∷ []; row = load_row; make = λ op x. instruction.Load op (operands x) }

abbrev pub load_indexed : Family
load_indexed = record { Op = Load; ops = LdB ∷ LdH ∷ LdW ∷ LdD ∷ LdBu ∷ LdHu ∷ LdWu ∷ []; row = load_indexed_row; make = λ op x. instruction.LoadIndexed op (operands x) }

abbrev pub store : Family
store = record { Op = Store; ops = StB ∷ StH ∷ StW ∷ StD ∷ []; row = store_row; make = λ op x. instruction.Store op (operands x) }

abbrev pub store_indexed : Family
store_indexed = record { Op = Store; ops = StB ∷ StH ∷ StW ∷ StD ∷ []; row = store_indexed_row; make = λ op x. instruction.StoreIndexed op (operands x) }

abbrev pub pointer : Family
pointer = record { Op = Pointer; ops = LdptrW ∷ LdptrD ∷ StptrW ∷ StptrD ∷ []; row = pointer_row; make = λ op x. instruction.Pointer op (operands x) }

abbrev pub preload : Family
preload = record { Op = Preload; ops = Preld ∷ Preldx ∷ []; row = preload_row; make = λ op x. instruction.Preload op (hint_operands x) }

abbrev pub barrier : Family
barrier = record { Op = Barrier; ops = Dbar ∷ Ibar ∷ []; row = barrier_row; make = λ op x. instruction.Barrier op (operands x) }

abbrev pub trap : Family
trap = record { Op = Trap; ops = Syscall ∷ Break ∷ []; row = trap_row; make = λ op x. instruction.Trap op (operands x) }

abbrev pub assert : Family
assert = record { Op = Assert; ops = AsrtleD ∷ AsrtgtD ∷ []; row = assert_row; make = λ op x. instruction.Assert op (operands x) }

abbrev pub config : Family
config = record { Op = Config; ops = Cpucfg ∷ []; row = config_row; make = λ op x. instruction.Config op (operands x) }

abbrev pub families : List Family
families = alu ∷ product ∷ division ∷ shift ∷ shift_immediate ∷ immediate ∷ upper ∷ alsl ∷ bytepick ∷ unary ∷ field ∷ branch ∷ zero_branch ∷ jump ∷ load ∷ load_indexed ∷ store ∷ store_indexed ∷ pointer ∷ preload ∷ barrier ∷ trap ∷ assert ∷ config ∷ []

-- a row of the table, and the instruction that it makes of a word's parts
pub record Entry : Type 0 where
  pub row : Row
  pub make : (Part → ℕ) → Instruction

abbrev pub entry : (F : Family) → F.Op → Entry
entry F op = record { row = F.row op; make = F.make op }

abbrev pub entries : (F : Family) → List F.Op → List Entry
entries F [] = []
entries F (op ∷ ops) = entry F op ∷ entries F ops

abbrev pub all_entries : List Family → List Entry
all_entries [] = []
all_entries (F ∷ Fs) = entries F F.ops ++ all_entries Fs

-- all rows
unfoldable pub table : List Entry
table = all_entries families
