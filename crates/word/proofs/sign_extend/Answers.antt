-- `word::sign_extend` meets its contract: pushed to the top and brought back with its sign.
use Rattle.std.proofs.Common.{◌-◌, ◌*◌, ◌%◌, ◌^◌, ap, ◌∙◌, arith, w64}
use Rattle.word.specs.Word.{cut}
use Rattle.word.proofs.Signs.{signed_fits, shr_code}
use Rattle.word.proofs.Extends.{sext_pushed}
use Rattle.word.proofs.sign_extend.Goals as goal

pub returns : goal.returns
returns c =
    let x = c.args.x in
    let k = c.args.k in
    c.as_bits.ensures
    ∙ ap (cut 64) (shr_code {w = w64} (2 ^ (64 - k)) c.as_signed.ensures (signed_fits w64 (x * 2 ^ (64 - k) % 2 ^ 64)))
    ∙ sext_pushed k (64 - k) (omega arith) (omega arith) x
