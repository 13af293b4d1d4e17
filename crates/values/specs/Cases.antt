-- Worked values, computed from the definitions alone: document 01's bench cases 1 to 6 as values of their instructions, and the rules
-- that it calls easy to get wrong. One row a value: what the definition gives, and what it must be.
use Rattle.std.specs.Prelude.{◌≡◌, refl, List, [], ◌∷◌, Bool, true, ◌&&◌, ℕ, eqb}
use Rattle.alu.specs.Alu.{add_w}
use Rattle.alu.specs.Alsl.{alsl_w, alsl_wu}
use Rattle.alu.specs.Immediate.{sltui}
use Rattle.alu.specs.Upper.{lu32i_d, pcalau12i}
use Rattle.product.specs.Product.{mulh_w, mulh_wu, mulh_d, mul_d}
use Rattle.quotient.specs.Quotient.{div_d, mod_d, div_w, mod_w, div_wu, div_du, mod_du}
use Rattle.shift.specs.Shift.{shift_of}
use Rattle.shift.specs.declared.Shift.TheVariants.{SraD, SraW, RotrW}
use Rattle.digits.specs.Count.{leading, trailing}
use Rattle.digits.specs.Reverse.{reverse, reverse_each}
use Rattle.digits.specs.Unary.{unary_of}
use Rattle.digits.specs.declared.Unary.TheVariants.{CloW, CtzD, RevbD, Revb2h, BitrevD}
use Rattle.fields.specs.Bytepick.{bytepick_d}
use Rattle.fields.specs.Field.{bstrins_d, bstrpick_w}

pub data Case : Type 0 where
  gives : ℕ → ℕ → Case

abbrev pub all_hold : List Case → Bool
all_hold [] = true
all_hold (gives a b ∷ cs) = eqb a b && all_hold cs

abbrev pub cases : List Case
unfolding shift_of unary_of leading trailing reverse reverse_each
cases =
    gives (add_w 0x7FFFFFFF 1) 0xFFFFFFFF80000000
    ∷ gives (alsl_w 0x40000000 0 0) 0xFFFFFFFF80000000
    ∷ gives (alsl_wu 0x40000000 0 0) 0x80000000
    ∷ gives (lu32i_d 5 0xFFFFF) 0xFFFFFFFF00000005
    ∷ gives (sltui 5 0xFFF) 1
    ∷ gives (bytepick_d 0xAABBCCDDEEFF0011 0x1122334455667788 1) 0x22334455667788AA
    ∷ gives (div_d 0xFFFFFFFFFFFFFFF9 2) 0xFFFFFFFFFFFFFFFD
    ∷ gives (mod_d 0xFFFFFFFFFFFFFFF9 2) 0xFFFFFFFFFFFFFFFF
    ∷ gives (div_d 0x8000000000000000 0xFFFFFFFFFFFFFFFF) 0x8000000000000000
    ∷ gives (mod_d 0x8000000000000000 0xFFFFFFFFFFFFFFFF) 0
    ∷ gives (div_w 0x80000000 0xFFFFFFFF) 0xFFFFFFFF80000000
    ∷ gives (mod_w 0x80000000 0xFFFFFFFF) 0
    ∷ gives (div_wu 0xFFFFFFFF 1) 0xFFFFFFFFFFFFFFFF
    ∷ gives (div_du 7 0) 0
    ∷ gives (mod_du 7 0) 0
    ∷ gives (mulh_w 0x80000000 0x80000000) 0x40000000
    ∷ gives (mulh_wu 0xFFFFFFFF 0xFFFFFFFF) 0xFFFFFFFFFFFFFFFE
    ∷ gives (mulh_d 0xFFFFFFFFFFFFFFFF 1) 0xFFFFFFFFFFFFFFFF
    ∷ gives (mul_d 0xFFFFFFFFFFFFFFFF 0xFFFFFFFFFFFFFFFF) 1
    ∷ gives (pcalau12i 0x10ABC 1) 0x11000
    ∷ gives (shift_of SraD 0x8000000000000000 127) 0xFFFFFFFFFFFFFFFF
    ∷ gives (shift_of SraW 0x80000000 32) 0xFFFFFFFF80000000
    ∷ gives (shift_of RotrW 1 1) 0xFFFFFFFF80000000
    ∷ gives (unary_of CloW 0xFFFFFFFF) 32
    ∷ gives (unary_of CtzD 0) 64
    ∷ gives (unary_of RevbD 0x1122334455667788) 0x8877665544332211
    ∷ gives (unary_of Revb2h 0x8000112200FF3344) 0xFFFFFFFFFF004433
    ∷ gives (unary_of BitrevD 1) 0x8000000000000000
    ∷ gives (bstrins_d 0xFFFFFFFFFFFFFFFF 0 15 8) 0xFFFFFFFFFFFF00FF
    ∷ gives (bstrpick_w 0xFFFFFFFF00000000 31 0) 0
    ∷ []

pub hold : all_hold cases ≡ true
unfolding shift_of unary_of leading trailing reverse reverse_each
hold = refl
