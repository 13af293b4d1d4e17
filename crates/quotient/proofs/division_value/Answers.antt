-- `quotient::division_value` meets its contract, one line an arm: of the divisors that are not 0, and then of 0.
use Rattle.std.proofs.Common.{sym, ap, ◌∙◌, ◌/◌, ◌%◌, w32, w64, pos, refl, mod-eq_of_lt, mod-lt, pow_pos, to_z-of_z, SFits}
use Rattle.word.specs.Word.{low, cut, sext, signed}
use Rattle.word.proofs.Extends.{word_bits}
use Rattle.quotient.specs.Quotient.{division_of, quotient, remainder, unsigned}
use Rattle.quotient.proofs.Divisions.{by_zero, quotient_bits, remainder_bits, plain_quotient, plain_remainder}
use Rattle.quotient.proofs.division_value.Goals as goal

pub returns-in-DivW : goal.returns-in-DivW
unfolding division_of
returns-in-DivW c =
    let fits : SFits w32 c.wrapping_div.result = record { sfits = c.wrapping_div.type_inv } in
    rw c.in-DivW.is (c.as_bits.ensures ∙ word_bits (to_z-of_z fits) fits ∙ ap (sext 32) (quotient_bits w32 c.args.rj c.args.rk c.as_word-word_j.ensures c.as_word-word_k.ensures c.if-word_k-ne0.true c.wrapping_div.ensures))

pub returns-in-ModW : goal.returns-in-ModW
unfolding division_of
returns-in-ModW c =
    let fits : SFits w32 c.wrapping_rem.result = record { sfits = c.wrapping_rem.type_inv } in
    rw c.in-ModW.is (c.as_bits-in-ModW.ensures ∙ word_bits (to_z-of_z fits) fits ∙ ap (sext 32) (remainder_bits w32 c.args.rj c.args.rk c.as_word-word_j.ensures c.as_word-word_k.ensures c.if-word_k-ne0-2.true c.wrapping_rem.ensures))

pub returns-in-DivWu : goal.returns-in-DivWu
unfolding division_of
returns-in-DivWu c =
    let below = mod-lt c.args.rj (pow_pos 32) in
    let answer = plain_quotient 32 (low 32 c.args.rj) (low 32 c.args.rk) below (λ e. c.if-low_k-ne0.true (c.low_word-low_k.ensures ∙ e)) in
    rw c.in-DivWu.is (c.sign_extend.ensures ∙ ap (sext 32) ((λ i. c.low_word-low_j.ensures i / c.low_word-low_k.ensures i) ∙ sym answer))

pub returns-in-ModWu : goal.returns-in-ModWu
unfolding division_of
returns-in-ModWu c =
    let below = mod-lt c.args.rj (pow_pos 32) in
    let answer = plain_remainder 32 (low 32 c.args.rj) (low 32 c.args.rk) below (λ e. c.if-low_k-ne0-2.true (c.low_word-low_k.ensures ∙ e)) in
    rw c.in-ModWu.is (c.sign_extend-in-ModWu.ensures ∙ ap (sext 32) ((λ i. c.low_word-low_j.ensures i % c.low_word-low_k.ensures i) ∙ sym answer))

pub returns-in-DivD : goal.returns-in-DivD
unfolding division_of
returns-in-DivD c =
    let fits : SFits w64 c.wrapping_div-in-DivD.result = record { sfits = c.wrapping_div-in-DivD.type_inv } in
    rw c.in-DivD.is (c.as_bits-in-DivD.ensures ∙ ap (cut 64) (to_z-of_z {w = w64} fits) ∙ quotient_bits w64 c.args.rj c.args.rk c.as_signed-j.ensures c.as_signed-k.ensures c.if-k-ne0.true c.wrapping_div-in-DivD.ensures)

pub returns-in-ModD : goal.returns-in-ModD
unfolding division_of
returns-in-ModD c =
    let fits : SFits w64 c.wrapping_rem-in-ModD.result = record { sfits = c.wrapping_rem-in-ModD.type_inv } in
    rw c.in-ModD.is (c.as_bits-in-ModD.ensures ∙ ap (cut 64) (to_z-of_z {w = w64} fits) ∙ remainder_bits w64 c.args.rj c.args.rk c.as_signed-j.ensures c.as_signed-k.ensures c.if-k-ne0-2.true c.wrapping_rem-in-ModD.ensures)

pub returns-in-DivDu : goal.returns-in-DivDu
unfolding division_of
returns-in-DivDu c =
    let whole = mod-eq_of_lt c.ranges.rj.fits in
    let divisor = mod-eq_of_lt c.ranges.rk.fits in
    rw c.in-DivDu.is (sym (plain_quotient 64 c.args.rj c.args.rk c.ranges.rj.fits c.if-rk-ne0.true) ∙ (λ i. cut 64 (quotient (pos (sym whole i)) (pos (sym divisor i)))))

pub returns-in-ModDu : goal.returns-in-ModDu
unfolding division_of
returns-in-ModDu c =
    let whole = mod-eq_of_lt c.ranges.rj.fits in
    let divisor = mod-eq_of_lt c.ranges.rk.fits in
    rw c.in-ModDu.is (sym (plain_remainder 64 c.args.rj c.args.rk c.ranges.rj.fits c.if-rk-ne0-2.true) ∙ (λ i. cut 64 (remainder (pos (sym whole i)) (pos (sym divisor i)))))

pub returns-in_default : goal.returns-in_default
unfolding division_of
returns-in_default c = rw c.in-DivW.is (ap (λ y. sext 32 (cut 32 (quotient (signed 32 c.args.rj) y))) (sym (by_zero w32 c.args.rj c.args.rk c.as_word-word_j.ensures c.as_word-word_k.ensures c.if-word_k-ne0.false refl)))

pub returns-in_default-2 : goal.returns-in_default-2
unfolding division_of
returns-in_default-2 c = rw c.in-ModW.is (ap (λ y. sext 32 (cut 32 (remainder (signed 32 c.args.rj) y))) (sym (by_zero w32 c.args.rj c.args.rk c.as_word-word_j.ensures c.as_word-word_k.ensures c.if-word_k-ne0-2.false refl)))

pub returns-in_default-3 : goal.returns-in_default-3
unfolding division_of
returns-in_default-3 c = rw c.in-DivWu.is (ap (λ n. sext 32 (cut 32 (quotient (unsigned 32 c.args.rj) (pos n)))) (sym c.if-low_k-ne0.false ∙ c.low_word-low_k.ensures))

pub returns-in_default-4 : goal.returns-in_default-4
unfolding division_of
returns-in_default-4 c = rw c.in-ModWu.is (ap (λ n. sext 32 (cut 32 (remainder (unsigned 32 c.args.rj) (pos n)))) (sym c.if-low_k-ne0-2.false ∙ c.low_word-low_k.ensures))

pub returns-in_default-5 : goal.returns-in_default-5
unfolding division_of
returns-in_default-5 c = rw c.in-DivD.is (ap (λ y. cut 64 (quotient (signed 64 c.args.rj) y)) (sym (by_zero w64 c.args.rj c.args.rk c.as_signed-j.ensures c.as_signed-k.ensures c.if-k-ne0.false refl)))

pub returns-in_default-6 : goal.returns-in_default-6
unfolding division_of
returns-in_default-6 c = rw c.in-ModD.is (ap (λ y. cut 64 (remainder (signed 64 c.args.rj) y)) (sym (by_zero w64 c.args.rj c.args.rk c.as_signed-j.ensures c.as_signed-k.ensures c.if-k-ne0-2.false refl)))

pub returns-in_default-7 : goal.returns-in_default-7
unfolding division_of
returns-in_default-7 c = rw c.in-DivDu.is (ap (λ n. cut 64 (quotient (unsigned 64 c.args.rj) (unsigned 64 n))) (sym c.if-rk-ne0.false))

pub returns-in_default-8 : goal.returns-in_default-8
unfolding division_of
returns-in_default-8 c = rw c.in-ModDu.is (ap (λ n. cut 64 (remainder (unsigned 64 c.args.rj) (unsigned 64 n))) (sym c.if-rk-ne0-2.false))
