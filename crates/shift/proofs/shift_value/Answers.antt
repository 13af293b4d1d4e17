-- `shift::shift_value` meets its contract, one line an arm.
use mathlib.Core.Path.{ap, ◌∙◌}
use Prim.Native.Nat.{ℕ, ◌-◌, ◌%◌, ◌<◌}
use native.Mathlib.Omega.{arith}
use mir.Syntax.{w32, w64}
use Rattle.word.specs.Word.{sext}
use Rattle.word.proofs.Shifts.{shl_low}
use Rattle.shift.specs.Shift.{shift_of, rotr}
use Rattle.shift.proofs.Turns.{turned, low_turned}
use Rattle.shift.proofs.shift_value.Goals as goal

pub returns-in-RotrW : goal.returns-in-RotrW
unfolding shift_of
returns-in-RotrW c =
    let s = c.args.by % 32 in
    let by : s < 32 = omega arith in
    let same = ap (λ (i : ℕ). rotr 32 i s) c.low_word-in-RotrW.ensures ∙ low_turned c.args.x s by in
    rw c.in-RotrW.is (c.sign_extend-in-RotrW.ensures ∙ ap (sext 32) (c.rotate_right.ensures ∙ turned w32 c.low_word-in-RotrW.result s by c.low_word-in-RotrW.type_inv ∙ same))

pub returns-in-SllD : goal.returns-in-SllD
unfolding shift_of
returns-in-SllD c = rw c.in-SllD.is (shl_low c.args.x (64 - c.args.by % 64) (c.args.by % 64) 64 (omega arith))

pub returns-in-RotrD : goal.returns-in-RotrD
unfolding shift_of
returns-in-RotrD c =
    let by : c.args.by % 64 < 64 = omega arith in
    rw c.in-RotrD.is (c.rotate_right-in-RotrD.ensures ∙ turned w64 c.args.x (c.args.by % 64) by c.ranges.x.fits)
