-- `word::low_bits` meets its contract: a shift up and back leaves the low digits.
use Rattle.std.proofs.Common.{◌-◌, arith}
use Rattle.word.proofs.Shifts.{shl_back}
use Rattle.word.proofs.low_bits.Goals as goal

pub returns-else-k-eq0 : goal.returns-else-k-eq0
returns-else-k-eq0 c = shl_back c.args.x c.args.k (64 - c.args.k) 64 (omega arith)
