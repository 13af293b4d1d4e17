-- i digits make less than 16 ^ i.
use Rattle.std.proofs.Common.{◌^◌, ◌<◌}
use Rattle.text.proofs.of_digits.Given as goal

abbrev pub invariant-loop-i : goal.invariant-loop-i
invariant-loop-i g l = l.value < 16 ^ l.i
