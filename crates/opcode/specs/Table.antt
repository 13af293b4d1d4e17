-- The encodings, a row a line: the mnemonic, its opcode as the manual prints it from bit 31 down, and the format. Manual Appendix B;
-- where the crawled text is damaged, two independent assemblers. This is the only place where an encoding is written down.
use Rattle.std.specs.Prelude.{ℕ}
use Rattle.isa.specs.Format.{Format, r2, r3, r3i2, r3i3, r2i5, r2i6, r2i12, r2i14, r2i16, r1i20, r1i21, i26, i15, asrt, field_w, field_d, hint_i12, hint_r2}
use Rattle.alu.specs.declared.Alu.{Alu}
use Rattle.alu.specs.declared.Alu.TheVariants.{AddW, AddD, SubW, SubD, Slt, Sltu, And, Or, Nor, Xor, Andn, Orn, Maskeqz, Masknez}
use Rattle.product.specs.declared.Product.{Product}
use Rattle.product.specs.declared.Product.TheVariants.{MulW, MulD, MulhW, MulhWu, MulhD, MulhDu, MulwDW, MulwDWu}
use Rattle.quotient.specs.declared.Division.{Division}
use Rattle.quotient.specs.declared.Division.TheVariants.{DivW, ModW, DivWu, ModWu, DivD, ModD, DivDu, ModDu}
use Rattle.shift.specs.declared.Shift.{Shift}
use Rattle.shift.specs.declared.Shift.TheVariants.{SllW, SrlW, SraW, RotrW, SllD, SrlD, SraD, RotrD}
use Rattle.alu.specs.declared.Immediate.{Immediate}
use Rattle.alu.specs.declared.Immediate.TheVariants.{AddiW, AddiD, Addu16iD, Slti, Sltui, Lu52iD, Andi, Ori, Xori}
use Rattle.alu.specs.declared.Upper.{Upper}
use Rattle.alu.specs.declared.Upper.TheVariants.{Lu12iW, Lu32iD, Pcaddi, Pcaddu12i, Pcaddu18i, Pcalau12i}
use Rattle.alu.specs.declared.Alsl.{Alsl}
use Rattle.alu.specs.declared.Alsl.TheVariants.{AlslW, AlslWu, AlslD}
use Rattle.fields.specs.declared.Bytepick.{Bytepick}
use Rattle.fields.specs.declared.Bytepick.TheVariants.{BytepickW, BytepickD}
use Rattle.digits.specs.declared.Unary.{Unary}
use Rattle.digits.specs.declared.Unary.TheVariants.{ExtWB, ExtWH, CloW, CloD, ClzW, ClzD, CtoW, CtoD, CtzW, CtzD, Revb2h, Revb4h, Revb2w, RevbD, Revh2w, RevhD, Bitrev4b, Bitrev8b, BitrevW, BitrevD}
use Rattle.fields.specs.declared.Field.{Field}
use Rattle.fields.specs.declared.Field.TheVariants.{BstrinsW, BstrinsD, BstrpickW, BstrpickD}
use Rattle.isa.specs.declared.Branch.{Branch}
use Rattle.isa.specs.declared.Branch.TheVariants.{Beq, Bne, Blt, Bge, Bltu, Bgeu}
use Rattle.isa.specs.declared.ZeroBranch.{ZeroBranch}
use Rattle.isa.specs.declared.ZeroBranch.TheVariants.{Beqz, Bnez}
use Rattle.isa.specs.declared.Jump.{Jump}
use Rattle.isa.specs.declared.Jump.TheVariants.{B, Bl, Jirl}
use Rattle.isa.specs.declared.Load.{Load}
use Rattle.isa.specs.declared.Load.TheVariants.{LdB, LdH, LdW, LdD, LdBu, LdHu, LdWu}
use Rattle.isa.specs.declared.Store.{Store}
use Rattle.isa.specs.declared.Store.TheVariants.{StB, StH, StW, StD}
use Rattle.isa.specs.declared.Pointer.{Pointer}
use Rattle.isa.specs.declared.Pointer.TheVariants.{LdptrW, LdptrD, StptrW, StptrD}
use Rattle.isa.specs.declared.Preload.{Preload}
use Rattle.isa.specs.declared.Preload.TheVariants.{Preld, Preldx}
use Rattle.isa.specs.declared.Barrier.{Barrier}
use Rattle.isa.specs.declared.Barrier.TheVariants.{Dbar, Ibar}
use Rattle.isa.specs.declared.Trap.{Trap}
use Rattle.isa.specs.declared.Trap.TheVariants.{Syscall, Break}
use Rattle.isa.specs.declared.Assert.{Assert}
use Rattle.isa.specs.declared.Assert.TheVariants.{AsrtleD, AsrtgtD}
use Rattle.isa.specs.declared.Config.{Config}
use Rattle.isa.specs.declared.Config.TheVariants.{Cpucfg}

pub record Row : Type 0 where
  pub code : ℕ
  pub format : Format

abbrev row : ℕ → Format → Row
row c f = record { code = c; format = f }

-- 2.2.1.1, 2.2.1.5, 2.2.1.8, 2.2.3.10
abbrev pub alu_row : Alu → Row
alu_row AddW = row 0b00000000000100000 r3
alu_row AddD = row 0b00000000000100001 r3
alu_row SubW = row 0b00000000000100010 r3
alu_row SubD = row 0b00000000000100011 r3
alu_row Slt = row 0b00000000000100100 r3
alu_row Sltu = row 0b00000000000100101 r3
alu_row And = row 0b00000000000101001 r3
alu_row Or = row 0b00000000000101010 r3
alu_row Nor = row 0b00000000000101000 r3
alu_row Xor = row 0b00000000000101011 r3
alu_row Andn = row 0b00000000000101101 r3
alu_row Orn = row 0b00000000000101100 r3
alu_row Maskeqz = row 0b00000000000100110 r3
alu_row Masknez = row 0b00000000000100111 r3

-- 2.2.1.11, 2.2.1.12
abbrev pub product_row : Product → Row
product_row MulW = row 0b00000000000111000 r3
product_row MulD = row 0b00000000000111011 r3
product_row MulhW = row 0b00000000000111001 r3
product_row MulhWu = row 0b00000000000111010 r3
product_row MulhD = row 0b00000000000111100 r3
product_row MulhDu = row 0b00000000000111101 r3
product_row MulwDW = row 0b00000000000111110 r3
product_row MulwDWu = row 0b00000000000111111 r3

-- 2.2.1.13
abbrev pub division_row : Division → Row
division_row DivW = row 0b00000000001000000 r3
division_row ModW = row 0b00000000001000001 r3
division_row DivWu = row 0b00000000001000010 r3
division_row ModWu = row 0b00000000001000011 r3
division_row DivD = row 0b00000000001000100 r3
division_row ModD = row 0b00000000001000101 r3
division_row DivDu = row 0b00000000001000110 r3
division_row ModDu = row 0b00000000001000111 r3

-- 2.2.2.1, 2.2.2.3
abbrev pub shift_row : Shift → Row
shift_row SllW = row 0b00000000000101110 r3
shift_row SrlW = row 0b00000000000101111 r3
shift_row SraW = row 0b00000000000110000 r3
shift_row RotrW = row 0b00000000000110110 r3
shift_row SllD = row 0b00000000000110001 r3
shift_row SrlD = row 0b00000000000110010 r3
shift_row SraD = row 0b00000000000110011 r3
shift_row RotrD = row 0b00000000000110111 r3

-- 2.2.2.2, 2.2.2.4
abbrev pub shift_immediate_row : Shift → Row
shift_immediate_row SllW = row 0b00000000010000001 r2i5  -- SLLI.W
shift_immediate_row SrlW = row 0b00000000010001001 r2i5  -- SRLI.W
shift_immediate_row SraW = row 0b00000000010010001 r2i5  -- SRAI.W
shift_immediate_row RotrW = row 0b00000000010011001 r2i5  -- ROTRI.W
shift_immediate_row SllD = row 0b0000000001000001 r2i6  -- SLLI.D
shift_immediate_row SrlD = row 0b0000000001000101 r2i6  -- SRLI.D
shift_immediate_row SraD = row 0b0000000001001001 r2i6  -- SRAI.D
shift_immediate_row RotrD = row 0b0000000001001101 r2i6  -- ROTRI.D

-- 2.2.1.2, 2.2.1.4, 2.2.1.6, 2.2.1.9
abbrev pub immediate_row : Immediate → Row
immediate_row AddiW = row 0b0000001010 r2i12
immediate_row AddiD = row 0b0000001011 r2i12
immediate_row Addu16iD = row 0b000100 r2i16
immediate_row Slti = row 0b0000001000 r2i12
immediate_row Sltui = row 0b0000001001 r2i12
immediate_row Lu52iD = row 0b0000001100 r2i12
immediate_row Andi = row 0b0000001101 r2i12
immediate_row Ori = row 0b0000001110 r2i12
immediate_row Xori = row 0b0000001111 r2i12

-- 2.2.1.4, 2.2.1.7
abbrev pub upper_row : Upper → Row
upper_row Lu12iW = row 0b0001010 r1i20
upper_row Lu32iD = row 0b0001011 r1i20
upper_row Pcaddi = row 0b0001100 r1i20
upper_row Pcaddu12i = row 0b0001110 r1i20
upper_row Pcaddu18i = row 0b0001111 r1i20
upper_row Pcalau12i = row 0b0001101 r1i20

-- 2.2.1.3
abbrev pub alsl_row : Alsl → Row
alsl_row AlslW = row 0b000000000000010 r3i2
alsl_row AlslWu = row 0b000000000000011 r3i2
alsl_row AlslD = row 0b000000000010110 r3i2

-- 2.2.3.3
abbrev pub bytepick_row : Bytepick → Row
bytepick_row BytepickW = row 0b000000000000100 r3i2
bytepick_row BytepickD = row 0b00000000000011 r3i3

-- 2.2.3.1, 2.2.3.2, 2.2.3.4 to 2.2.3.7
abbrev pub unary_row : Unary → Row
unary_row ExtWB = row 0b0000000000000000010111 r2
unary_row ExtWH = row 0b0000000000000000010110 r2
unary_row CloW = row 0b0000000000000000000100 r2
unary_row CloD = row 0b0000000000000000001000 r2
unary_row ClzW = row 0b0000000000000000000101 r2
unary_row ClzD = row 0b0000000000000000001001 r2
unary_row CtoW = row 0b0000000000000000000110 r2
unary_row CtoD = row 0b0000000000000000001010 r2
unary_row CtzW = row 0b0000000000000000000111 r2
unary_row CtzD = row 0b0000000000000000001011 r2
unary_row Revb2h = row 0b0000000000000000001100 r2
unary_row Revb4h = row 0b0000000000000000001101 r2
unary_row Revb2w = row 0b0000000000000000001110 r2
unary_row RevbD = row 0b0000000000000000001111 r2
unary_row Revh2w = row 0b0000000000000000010000 r2
unary_row RevhD = row 0b0000000000000000010001 r2
unary_row Bitrev4b = row 0b0000000000000000010010 r2
unary_row Bitrev8b = row 0b0000000000000000010011 r2
unary_row BitrevW = row 0b0000000000000000010100 r2
unary_row BitrevD = row 0b0000000000000000010101 r2

-- 2.2.3.8, 2.2.3.9
abbrev pub field_row : Field → Row
field_row BstrinsW = row 0b00000000011_0 field_w
field_row BstrinsD = row 0b0000000010 field_d
field_row BstrpickW = row 0b00000000011_1 field_w
field_row BstrpickD = row 0b0000000011 field_d

-- 2.2.4.1
abbrev pub branch_row : Branch → Row
branch_row Beq = row 0b010110 r2i16
branch_row Bne = row 0b010111 r2i16
branch_row Blt = row 0b011000 r2i16
branch_row Bge = row 0b011001 r2i16
branch_row Bltu = row 0b011010 r2i16
branch_row Bgeu = row 0b011011 r2i16

-- 2.2.4.2
abbrev pub zero_branch_row : ZeroBranch → Row
zero_branch_row Beqz = row 0b010000 r1i21
zero_branch_row Bnez = row 0b010001 r1i21

-- 2.2.4.3 to 2.2.4.5
abbrev pub jump_row : Jump → Row
jump_row B = row 0b010100 i26
jump_row Bl = row 0b010101 i26
jump_row Jirl = row 0b010011 r2i16

-- 2.2.5.1
abbrev pub load_row : Load → Row
load_row LdB = row 0b0010100000 r2i12
load_row LdH = row 0b0010100001 r2i12
load_row LdW = row 0b0010100010 r2i12
load_row LdD = row 0b0010100011 r2i12
load_row LdBu = row 0b0010101000 r2i12
load_row LdHu = row 0b0010101001 r2i12
load_row LdWu = row 0b0010101010 r2i12

-- 2.2.5.2
abbrev pub load_indexed_row : Load → Row
load_indexed_row LdB = row 0b00111000000000000 r3  -- LDX.B
load_indexed_row LdH = row 0b00111000000001000 r3  -- LDX.H
load_indexed_row LdW = row 0b00111000000010000 r3  -- LDX.W
load_indexed_row LdD = row 0b00111000000011000 r3  -- LDX.D
load_indexed_row LdBu = row 0b00111000001000000 r3  -- LDX.BU
load_indexed_row LdHu = row 0b00111000001001000 r3  -- LDX.HU
load_indexed_row LdWu = row 0b00111000001010000 r3  -- LDX.WU

-- 2.2.5.1
abbrev pub store_row : Store → Row
store_row StB = row 0b0010100100 r2i12
store_row StH = row 0b0010100101 r2i12
store_row StW = row 0b0010100110 r2i12
store_row StD = row 0b0010100111 r2i12

-- 2.2.5.2
abbrev pub store_indexed_row : Store → Row
store_indexed_row StB = row 0b00111000000100000 r3  -- STX.B
store_indexed_row StH = row 0b00111000000101000 r3  -- STX.H
store_indexed_row StW = row 0b00111000000110000 r3  -- STX.W
store_indexed_row StD = row 0b00111000000111000 r3  -- STX.D

-- 2.2.5.3
abbrev pub pointer_row : Pointer → Row
pointer_row LdptrW = row 0b00100100 r2i14
pointer_row LdptrD = row 0b00100110 r2i14
pointer_row StptrW = row 0b00100101 r2i14
pointer_row StptrD = row 0b00100111 r2i14

-- 2.2.5.4, 2.2.5.5
abbrev pub preload_row : Preload → Row
preload_row Preld = row 0b0010101011 hint_i12
preload_row Preldx = row 0b00111000001011000 hint_r2

-- 2.2.8.1, 2.2.8.2
abbrev pub barrier_row : Barrier → Row
barrier_row Dbar = row 0b00111000011100100 i15
barrier_row Ibar = row 0b00111000011100101 i15

-- 2.2.10.1, 2.2.10.2
abbrev pub trap_row : Trap → Row
trap_row Syscall = row 0b00000000001010110 i15
trap_row Break = row 0b00000000001010100 i15

-- 2.2.10.3
abbrev pub assert_row : Assert → Row
assert_row AsrtleD = row 0b00000000000000010_00000 asrt
assert_row AsrtgtD = row 0b00000000000000011_00000 asrt

-- 2.2.10.5
abbrev pub config_row : Config → Row
config_row Cpucfg = row 0b0000000000000000011011 r2
