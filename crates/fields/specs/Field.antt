-- Bit fields: manual 2.2.3.8 and 2.2.3.9. `msb` and `lsb` are the fields' own values. Words with msb below lsb do not exist (01:
-- INE, house); here such a field has no bits, so that the definitions have an answer for all numbers.
use Rattle.std.specs.Prelude.{ℕ, ◌+◌, ◌-◌, ◌*◌, ◌/◌, ◌^◌, cond, leb}
use Rattle.word.specs.Word.{low, sext}
use Rattle.fields.specs.declared.Field.{Field}
use Rattle.fields.specs.declared.Field.TheVariants.{BstrinsW, BstrinsD, BstrpickW, BstrpickD}

-- x[msb:lsb]
abbrev pub pick : ℕ → ℕ → ℕ → ℕ
pick x msb lsb = low (msb + 1 - lsb) (x / 2 ^ lsb)

-- x with y[msb-lsb:0] at [msb:lsb]; above and below, x's own bits
abbrev pub insert : ℕ → ℕ → ℕ → ℕ → ℕ
insert x y msb lsb = cond (leb lsb msb) (x / 2 ^ (msb + 1) * 2 ^ (msb + 1) + low (msb + 1 - lsb) y * 2 ^ lsb + low lsb x) x

-- BSTRINS.W: bstr32[31:msbw+1] = GR[rd][31:msbw+1]; bstr32[msbw:lsbw] = GR[rj][msbw-lsbw:0]; bstr32[lsbw-1:0] = GR[rd][lsbw-1:0];
-- GR[rd] = SignExtend(bstr32[31:0], GRLEN)
abbrev pub bstrins_w : ℕ → ℕ → ℕ → ℕ → ℕ
bstrins_w rd rj msbw lsbw = sext 32 (insert rd rj (low 5 msbw) (low 5 lsbw))

-- BSTRINS.D: the same of the whole register
abbrev pub bstrins_d : ℕ → ℕ → ℕ → ℕ → ℕ
bstrins_d rd rj msbd lsbd = insert rd rj (low 6 msbd) (low 6 lsbd)

-- BSTRPICK.W: bstr32[31:0] = ZeroExtend(GR[rj][msbw:lsbw], 32); GR[rd] = SignExtend(bstr32[31:0], GRLEN)
abbrev pub bstrpick_w : ℕ → ℕ → ℕ → ℕ
bstrpick_w rj msbw lsbw = sext 32 (pick rj (low 5 msbw) (low 5 lsbw))

-- BSTRPICK.D: GR[rd] = ZeroExtend(GR[rj][msbd:lsbd], 64)
abbrev pub bstrpick_d : ℕ → ℕ → ℕ → ℕ
bstrpick_d rj msbd lsbd = pick rj (low 6 msbd) (low 6 lsbd)

-- the family, one row a mnemonic: rd as it was, rj, msb and lsb
unfoldable pub field_of : Field → ℕ → ℕ → ℕ → ℕ → ℕ
field_of BstrinsW rd rj msb lsb = bstrins_w rd rj msb lsb
field_of BstrinsD rd rj msb lsb = bstrins_d rd rj msb lsb
field_of BstrpickW rd rj msb lsb = bstrpick_w rj msb lsb
field_of BstrpickD rd rj msb lsb = bstrpick_d rj msb lsb
