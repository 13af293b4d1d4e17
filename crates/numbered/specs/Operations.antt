-- The number of an operation within its family: "A decoded instruction names its family, within the family its operation, and its operands."
-- They count from 0 in the order of the family's type.
use Rattle.std.specs.Prelude.{ℕ}
use Rattle.alu.specs.declared.Alu.{Alu}
use Rattle.product.specs.declared.Product.{Product}
use Rattle.quotient.specs.declared.Division.{Division}
use Rattle.shift.specs.declared.Shift.{Shift}
use Rattle.alu.specs.declared.Immediate.{Immediate}
use Rattle.alu.specs.declared.Upper.{Upper}
use Rattle.alu.specs.declared.Alsl.{Alsl}
use Rattle.fields.specs.declared.Bytepick.{Bytepick}
use Rattle.digits.specs.declared.Unary.{Unary}
use Rattle.fields.specs.declared.Field.{Field}
use Rattle.isa.specs.declared.Branch.{Branch}
use Rattle.isa.specs.declared.ZeroBranch.{ZeroBranch}
use Rattle.isa.specs.declared.Jump.{Jump}
use Rattle.isa.specs.declared.Load.{Load}
use Rattle.isa.specs.declared.Store.{Store}
use Rattle.isa.specs.declared.Pointer.{Pointer}
use Rattle.isa.specs.declared.Preload.{Preload}
use Rattle.isa.specs.declared.Barrier.{Barrier}
use Rattle.isa.specs.declared.Trap.{Trap}
use Rattle.isa.specs.declared.Assert.{Assert}

abbrev pub alu_number : Alu → ℕ
alu_number Alu.AddW = 0
alu_number Alu.AddD = 1
alu_number Alu.SubW = 2
alu_number Alu.SubD = 3
alu_number Alu.Slt = 4
alu_number Alu.Sltu = 5
alu_number Alu.And = 6
alu_number Alu.Or = 7
alu_number Alu.Nor = 8
alu_number Alu.Xor = 9
alu_number Alu.Andn = 10
alu_number Alu.Orn = 11
alu_number Alu.Maskeqz = 12
alu_number Alu.Masknez = 13

abbrev pub product_number : Product → ℕ
product_number Product.MulW = 0
product_number Product.MulD = 1
product_number Product.MulhW = 2
product_number Product.MulhWu = 3
product_number Product.MulhD = 4
product_number Product.MulhDu = 5
product_number Product.MulwDW = 6
product_number Product.MulwDWu = 7

abbrev pub division_number : Division → ℕ
division_number Division.DivW = 0
division_number Division.ModW = 1
division_number Division.DivWu = 2
division_number Division.ModWu = 3
division_number Division.DivD = 4
division_number Division.ModD = 5
division_number Division.DivDu = 6
division_number Division.ModDu = 7

abbrev pub shift_number : Shift → ℕ
shift_number Shift.SllW = 0
shift_number Shift.SrlW = 1
shift_number Shift.SraW = 2
shift_number Shift.RotrW = 3
shift_number Shift.SllD = 4
shift_number Shift.SrlD = 5
shift_number Shift.SraD = 6
shift_number Shift.RotrD = 7

abbrev pub immediate_number : Immediate → ℕ
immediate_number Immediate.AddiW = 0
immediate_number Immediate.AddiD = 1
immediate_number Immediate.Addu16iD = 2
immediate_number Immediate.Slti = 3
immediate_number Immediate.Sltui = 4
immediate_number Immediate.Lu52iD = 5
immediate_number Immediate.Andi = 6
immediate_number Immediate.Ori = 7
immediate_number Immediate.Xori = 8

abbrev pub upper_number : Upper → ℕ
upper_number Upper.Lu12iW = 0
upper_number Upper.Lu32iD = 1
upper_number Upper.Pcaddi = 2
upper_number Upper.Pcaddu12i = 3
upper_number Upper.Pcaddu18i = 4
upper_number Upper.Pcalau12i = 5

abbrev pub alsl_number : Alsl → ℕ
alsl_number Alsl.AlslW = 0
alsl_number Alsl.AlslWu = 1
alsl_number Alsl.AlslD = 2

abbrev pub bytepick_number : Bytepick → ℕ
bytepick_number Bytepick.BytepickW = 0
bytepick_number Bytepick.BytepickD = 1

abbrev pub unary_number : Unary → ℕ
unary_number Unary.ExtWB = 0
unary_number Unary.ExtWH = 1
unary_number Unary.CloW = 2
unary_number Unary.CloD = 3
unary_number Unary.ClzW = 4
unary_number Unary.ClzD = 5
unary_number Unary.CtoW = 6
unary_number Unary.CtoD = 7
unary_number Unary.CtzW = 8
unary_number Unary.CtzD = 9
unary_number Unary.Revb2h = 10
unary_number Unary.Revb4h = 11
unary_number Unary.Revb2w = 12
unary_number Unary.RevbD = 13
unary_number Unary.Revh2w = 14
unary_number Unary.RevhD = 15
unary_number Unary.Bitrev4b = 16
unary_number Unary.Bitrev8b = 17
unary_number Unary.BitrevW = 18
unary_number Unary.BitrevD = 19

abbrev pub field_number : Field → ℕ
field_number Field.BstrinsW = 0
field_number Field.BstrinsD = 1
field_number Field.BstrpickW = 2
field_number Field.BstrpickD = 3

abbrev pub branch_number : Branch → ℕ
branch_number Branch.Beq = 0
branch_number Branch.Bne = 1
branch_number Branch.Blt = 2
branch_number Branch.Bge = 3
branch_number Branch.Bltu = 4
branch_number Branch.Bgeu = 5

abbrev pub zero_branch_number : ZeroBranch → ℕ
zero_branch_number ZeroBranch.Beqz = 0
zero_branch_number ZeroBranch.Bnez = 1

abbrev pub jump_number : Jump → ℕ
jump_number Jump.B = 0
jump_number Jump.Bl = 1
jump_number Jump.Jirl = 2

abbrev pub load_number : Load → ℕ
load_number Load.LdB = 0
load_number Load.LdH = 1
load_number Load.LdW = 2
load_number Load.LdD = 3
load_number Load.LdBu = 4
load_number Load.LdHu = 5
load_number Load.LdWu = 6

abbrev pub store_number : Store → ℕ
store_number Store.StB = 0
store_number Store.StH = 1
store_number Store.StW = 2
store_number Store.StD = 3

abbrev pub pointer_number : Pointer → ℕ
pointer_number Pointer.LdptrW = 0
pointer_number Pointer.LdptrD = 1
pointer_number Pointer.StptrW = 2
pointer_number Pointer.StptrD = 3

abbrev pub preload_number : Preload → ℕ
preload_number Preload.Preld = 0
preload_number Preload.Preldx = 1

abbrev pub barrier_number : Barrier → ℕ
barrier_number Barrier.Dbar = 0
barrier_number Barrier.Ibar = 1

abbrev pub trap_number : Trap → ℕ
trap_number Trap.Syscall = 0
trap_number Trap.Break = 1

abbrev pub assert_number : Assert → ℕ
assert_number Assert.AsrtleD = 0
assert_number Assert.AsrtgtD = 1
