-- `product::signed_high` meets its contract: each step of the code is read back from its bits.
use Rattle.std.proofs.Common.{ap, ◌∙◌, ◌*ℤ◌, ◌^◌, w64}
use lib.Signed.{shr_z}
use mir.Syntax.{w128}
use mir.Facts.{sfits_widen}
use Rattle.word.specs.Word.{cut}
use Rattle.word.proofs.Signs.{back, signed_fits}
use Rattle.product.proofs.Signs.{registers_fit, high_half_fits}
use Rattle.product.proofs.signed_high.Goals as goal

pub returns : goal.returns
returns c =
    let rj = c.args.rj in
    let rk = c.args.rk in
    let first = back {w = w128} (back {w = w64} c.as_signed.ensures (signed_fits w64 rj)) (sfits_widen {w = w64} {w' = w128} tt (signed_fits w64 rj)) in
    let second = back {w = w128} (back {w = w64} c.as_signed-2.ensures (signed_fits w64 rk)) (sfits_widen {w = w64} {w' = w128} tt (signed_fits w64 rk)) in
    let product = back {w = w128} (λ i. first i *ℤ second i) (registers_fit rj rk) in
    let high = back {w = w128} (ap (λ z. shr_z z (2 ^ 64)) product) (sfits_widen {w = w64} {w' = w128} tt (high_half_fits rj rk)) in
    c.as_bits.ensures ∙ ap (cut 64) (back {w = w64} high (high_half_fits rj rk))
