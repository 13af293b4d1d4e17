-- Shifts: manual 2.2.2, by the functions of its Appendix A.2 over the width N. The shift amount is a register (2.2.2.1, 2.2.2.3) or
-- the field ui5 or ui6 (2.2.2.2, 2.2.2.4): the same definitions serve both, since a field of 5 or 6 bits is its own remainder.
use Rattle.std.specs.Prelude.{ℕ, ◌+◌, ◌-◌, ◌*◌, ◌/◌, ◌^◌}
use Rattle.std.specs.Int.Signed.{shr_z}
use Rattle.word.specs.Word.{low, cut, sext, signed}
use Rattle.shift.specs.declared.Shift.{Shift}
use Rattle.shift.specs.declared.Shift.TheVariants.{SllW, SrlW, SraW, RotrW, SllD, SrlD, SraD, RotrD}

-- A.2.1, SLL: {x[N-sa-1:0], {sa{1'b0}}}
abbrev pub sll : ℕ → ℕ → ℕ → ℕ
sll n x sa = low (n - sa) x * 2 ^ sa

-- A.2.2, SRL: {{sa{1'b0}}, x[N-1:sa]}
abbrev pub srl : ℕ → ℕ → ℕ → ℕ
srl n x sa = low n x / 2 ^ sa

-- A.2.3, SRA: {{sa{x[N-1]}}, x[N-1:sa]}, the signed value divided by 2 ^ sa and rounded down. 01: "SRA keeps the sign."
abbrev pub sra : ℕ → ℕ → ℕ → ℕ
sra n x sa = cut n (shr_z (signed n x) (2 ^ sa))

-- A.2.4, ROTR: {x[sa-1:0], x[N-1:sa]}
abbrev pub rotr : ℕ → ℕ → ℕ → ℕ
rotr n x sa = low sa x * 2 ^ (n - sa) + low n x / 2 ^ sa

-- .W: tmp = SLL(GR[rj][31:0], GR[rk][4:0]) and so on; GR[rd] = SignExtend(tmp[31:0], GRLEN).
-- 01: "Shift amounts are rk modulo 32 (.W) or 64 (.D)."
abbrev pub word : (ℕ → ℕ → ℕ → ℕ) → ℕ → ℕ → ℕ
word f rj rk = sext 32 (f 32 rj (low 5 rk))

-- .D: GR[rd] = SLL(GR[rj][63:0], GR[rk][5:0]) and so on
abbrev pub double : (ℕ → ℕ → ℕ → ℕ) → ℕ → ℕ → ℕ
double f rj rk = f 64 rj (low 6 rk)

-- the family, one row a mnemonic
unfoldable pub shift_of : Shift → ℕ → ℕ → ℕ
shift_of SllW = word sll
shift_of SrlW = word srl
shift_of SraW = word sra
shift_of RotrW = word rotr
shift_of SllD = double sll
shift_of SrlD = double srl
shift_of SraD = double sra
shift_of RotrD = double rotr
