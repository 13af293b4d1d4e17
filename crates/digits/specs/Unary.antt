-- One register: manual 2.2.3.1, 2.2.3.2 and 2.2.3.4 to 2.2.3.7.
use Rattle.std.specs.Prelude.{ℕ}
use Rattle.word.specs.Word.{sext}
use Rattle.digits.specs.Count.{leading, trailing}
use Rattle.digits.specs.Reverse.{reverse, reverse_each}
use Rattle.digits.specs.declared.Unary.{Unary}
use Rattle.digits.specs.declared.Unary.TheVariants.{ExtWB, ExtWH, CloW, CloD, ClzW, ClzD, CtoW, CtoD, CtzW, CtzD, Revb2h, Revb4h, Revb2w, RevbD, Revh2w, RevhD, Bitrev4b, Bitrev8b, BitrevW, BitrevD}

-- the family, one row a mnemonic.
-- EXT.W.B, EXT.W.H: GR[rd] = SignExtend(GR[rj][7:0], GRLEN), SignExtend(GR[rj][15:0], GRLEN).
-- CLO, CLZ, CTO, CTZ: the run of ones or zeros of GR[rj][31:0] or GR[rj][63:0].
-- REVB.2H: {tmp1, tmp0}, each half-word's two bytes in the other order, sign-extended from 32 bits; 4H: the same of four half-words;
-- 2W: of two words' four bytes; D: of the register's eight bytes. REVH.2W, D: the half-words of each word, of the register.
-- BITREV.4B: the bits of each of four bytes in the other order, sign-extended from 32 bits; 8B: of eight bytes; W, D: of the word,
-- sign-extended, and of the register.
unfoldable pub unary_of : Unary → ℕ → ℕ
unary_of ExtWB rj = sext 8 rj
unary_of ExtWH rj = sext 16 rj
unary_of CloW rj = leading 1 32 rj
unary_of CloD rj = leading 1 64 rj
unary_of ClzW rj = leading 0 32 rj
unary_of ClzD rj = leading 0 64 rj
unary_of CtoW rj = trailing 1 32 rj
unary_of CtoD rj = trailing 1 64 rj
unary_of CtzW rj = trailing 0 32 rj
unary_of CtzD rj = trailing 0 64 rj
unary_of Revb2h rj = sext 32 (reverse_each 8 2 2 rj)
unary_of Revb4h rj = reverse_each 8 2 4 rj
unary_of Revb2w rj = reverse_each 8 4 2 rj
unary_of RevbD rj = reverse 8 8 rj
unary_of Revh2w rj = reverse_each 16 2 2 rj
unary_of RevhD rj = reverse 16 4 rj
unary_of Bitrev4b rj = sext 32 (reverse_each 1 8 4 rj)
unary_of Bitrev8b rj = reverse_each 1 8 8 rj
unary_of BitrevW rj = sext 32 (reverse 1 32 rj)
unary_of BitrevD rj = reverse 1 64 rj
