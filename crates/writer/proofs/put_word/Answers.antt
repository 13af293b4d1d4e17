-- `writer::put_word` meets its contract.
use Rattle.byte_order.proofs.Stands.{length_bytes}
use Rattle.writer.proofs.Words.{eight}
use Rattle.writer.proofs.put_word.Goals as goal

pub put-requires : goal.put-requires
put-requires c = rw c.to_le_bytes.ensures (rw (length_bytes 8 c.args.value) at c.requires)

pub returns : goal.returns
returns c = rw (c.to_le_bytes.ensures, eight c.args.value) at c.put.ensures
