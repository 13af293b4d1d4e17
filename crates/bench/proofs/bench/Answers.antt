-- What `run` replied is what the bench program's definition says of the same code, and `print` printed that.
use Rattle.bench.specs.Bench.{bench_of}
use Rattle.bench.proofs.bench.Goals as goal

pub returns-clause-prints : goal.returns-clause-prints
unfolding bench_of
returns-clause-prints c = rw (c.run-reply.ensures.reply, c.start.ensures) at c.print.ensures.prints
