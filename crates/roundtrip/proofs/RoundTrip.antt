-- Words and instructions, there and back: every word that exists is the word of its instruction, and every instruction with operands in
-- range is what its word decodes to. Generic laws over rows first; then a line for each family. Assumes nothing.
use Rattle.std.specs.Prelude.{Some}
use mathlib.Core.Path.{◌≡◌, refl, sym, ap, ◌∙◌, subst}
use Prim.Native.Nat.{ℕ, zero, suc, ◌^◌, ◌<◌}
use native.Mathlib.Nat.{mod-eq_of_lt}
use native.Mathlib.Omega.{arith}
use mathlib.Core.Bool.{Bool, true, false, cond, ◌&&◌}
use mathlib.Core.List.{List, [], ◌∷◌, ◌++◌}
use lib.Dec.{T, eqb, ltb, eqb→eq, ltb→lt}
use lib.Pow.{pow_pos}
use borrow.Author.Tests.{eqb-true, eq-eqb}
use Rattle.isa.specs.Format.{Part, opcode, rd, rj, rk, imm, hint, lsb, msb, places, filled, word_of, values, width}
use Rattle.opcode.specs.Table.{Row}
use Rattle.isa.specs.Operands.{operands, field_operands, hint_operands}
use Rattle.opcode.specs.Families.{Family, Entry, entry, entries, all_entries, families, table, alu, product, division, shift, shift_immediate, immediate, upper, alsl, bytepick, unary, field, branch, zero_branch, jump, load, load_indexed, store, store_indexed, pointer, preload, barrier, trap, assert, config}
use Rattle.opcode.specs.Decode.{has, decode_in, decode_of}
use Rattle.roundtrip.specs.Encode.{of_operands, of_field_operands, of_hint_operands, operands_of, row_of, with_code, parts_of, encode_of, InRange}
use Rattle.isa.specs.declared.Instruction.{Instruction}
use Rattle.isa.specs.declared.Instruction.TheVariants as instruction
use Rattle.isa.proofs.Places.{joins, agree, read_back, gather_lt, and_l, and_r}
use Rattle.opcode.proofs.Narrow.{every, both_l}
use Rattle.roundtrip.proofs.Words.{word_lt, agreed, laid}
use Rattle.roundtrip.proofs.Apart.{Has, here, there, every_of, joined, rows_apart, found}
use Rattle.roundtrip.proofs.Enumerated as enum
use Rattle.roundtrip.proofs.Enumerated.{In, enumerated}
use Rattle.alu.specs.contracts.Alu as Alu
use Rattle.product.specs.contracts.Product as Product
use Rattle.quotient.specs.contracts.Division as Division
use Rattle.shift.specs.contracts.Shift as Shift
use Rattle.alu.specs.contracts.Immediate as Immediate
use Rattle.alu.specs.contracts.Upper as Upper
use Rattle.alu.specs.contracts.Alsl as Alsl
use Rattle.fields.specs.contracts.Bytepick as Bytepick
use Rattle.digits.specs.contracts.Unary as Unary
use Rattle.fields.specs.contracts.Field as Field
use Rattle.isa.specs.contracts.Branch as Branch
use Rattle.isa.specs.contracts.ZeroBranch as ZeroBranch
use Rattle.isa.specs.contracts.Jump as Jump
use Rattle.isa.specs.contracts.Load as Load
use Rattle.isa.specs.contracts.Store as Store
use Rattle.isa.specs.contracts.Pointer as Pointer
use Rattle.isa.specs.contracts.Preload as Preload
use Rattle.isa.specs.contracts.Barrier as Barrier
use Rattle.isa.specs.contracts.Trap as Trap
use Rattle.isa.specs.contracts.Assert as Assert
use Rattle.isa.specs.contracts.Config as Config

-- ---- rows

-- what every row must have: parts that join to one number each, 32 bits in all, and an opcode that fits
abbrev parts : List Part
parts = opcode ∷ rd ∷ rj ∷ rk ∷ imm ∷ hint ∷ lsb ∷ msb ∷ []

abbrev each : (Part → Bool) → List Part → Bool
each p [] = true
each p (q ∷ qs) = p q && each p qs

abbrev sound : Row → Bool
sound r = each (λ q. joins (places q r.format.pieces)) parts && (eqb (filled r.format.pieces) 32 && ltb r.code (2 ^ width r.format opcode))

rows_sound : T (every sound table)
unfolding table
rows_sound = tt

rows_joined : T (every joined table)
unfolding table
rows_joined = tt

is_part : (q : Part) → In q parts
is_part opcode = enum.here
is_part rd = enum.there enum.here
is_part rj = enum.there (enum.there enum.here)
is_part rk = enum.there (enum.there (enum.there enum.here))
is_part imm = enum.there (enum.there (enum.there (enum.there enum.here)))
is_part hint = enum.there (enum.there (enum.there (enum.there (enum.there enum.here))))
is_part lsb = enum.there (enum.there (enum.there (enum.there (enum.there (enum.there enum.here)))))
is_part msb = enum.there (enum.there (enum.there (enum.there (enum.there (enum.there (enum.there enum.here))))))

each_of : (p : Part → Bool) {q : Part} {qs : List Part} → In q qs → T (each p qs) → T (p q)
each_of p {q} (enum.here {xs = qs}) t = and_l (p q) (each p qs) t
each_of p (enum.there {x = x} {xs = qs} h) t = each_of p h (and_r (p x) (each p qs) t)

-- an operand that the format does not have
abbrev lacks : List Part → Row → Bool
lacks qs r = each (λ q. eqb (width r.format q) 0) qs

module _ (r : Row) (t : T (sound r)) where
  later : T (eqb (filled r.format.pieces) 32 && ltb r.code (2 ^ width r.format opcode))
  later = and_r (each (λ q. joins (places q r.format.pieces)) parts) _ t

  joins_of : (q : Part) → T (joins (places q r.format.pieces))
  joins_of q = each_of (λ q. joins (places q r.format.pieces)) (is_part q) (and_l (each (λ q. joins (places q r.format.pieces)) parts) _ t)

  full : filled r.format.pieces ≡ 32
  full = eqb→eq _ 32 (and_l (eqb (filled r.format.pieces) 32) _ later)

  code_lt : r.code < 2 ^ width r.format opcode
  code_lt = ltb→lt _ _ (and_r (eqb (filled r.format.pieces) 32) _ later)

  -- the word of the values that a word has
  written : (w : ℕ) → w < 2 ^ 32 → word_of r.format.pieces (values r.format w) ≡ w
  written w h =
      agreed r.format.pieces (values r.format w) w (λ q. agree (places q r.format.pieces) w (joins_of q))
      ∙ mod-eq_of_lt (subst (λ (n : ℕ). w < 2 ^ n) (sym full) h)

  word_fits : (y : Part → ℕ) → word_of r.format.pieces y < 2 ^ 32
  word_fits y = subst (λ (n : ℕ). word_of r.format.pieces y < 2 ^ n) full (word_lt r.format.pieces y)

  -- the values that a word of values has
  read : (y : Part → ℕ) → ((q : Part) → y q < 2 ^ width r.format q) → values r.format (word_of r.format.pieces y) ≡ y
  read y v =
      let w = word_of r.format.pieces y in
      λ i q. read_back (places q r.format.pieces) (y q) w (joins_of q) (v q) (laid r.format.pieces y w (sym (mod-eq_of_lt (word_lt r.format.pieces y))) q) i

  value_lt : (w : ℕ) (q : Part) → values r.format w q < 2 ^ width r.format q
  value_lt w q = gather_lt (places q r.format.pieces) w (joins_of q)

  absent : (w : ℕ) (q : Part) → T (eqb (width r.format q) 0) → 0 ≡ values r.format w q
  absent w q z = let h : values r.format w q < 2 ^ 0 = subst (λ (n : ℕ). values r.format w q < 2 ^ n) (eqb→eq _ 0 z) (value_lt w q) in omega arith

  has_code : (w : ℕ) → has r w ≡ true → r.code ≡ values r.format w opcode
  has_code w e = sym (eqb-true _ _ (both_l (eqb (values r.format w opcode) r.code) _ e))

  -- operands in range and the opcode: the row has their word
  coded_lt : (x : Part → ℕ) → ((q : Part) → x q < 2 ^ width r.format q) → (q : Part) → with_code r.code x q < 2 ^ width r.format q
  coded_lt x v opcode = code_lt
  coded_lt x v rd = v rd
  coded_lt x v rj = v rj
  coded_lt x v rk = v rk
  coded_lt x v imm = v imm
  coded_lt x v hint = v hint
  coded_lt x v lsb = v lsb
  coded_lt x v msb = v msb

  has_word : (x : Part → ℕ) → ((q : Part) → x q < 2 ^ width r.format q) → r.format.allows (with_code r.code x) ≡ true → has r (word_of r.format.pieces (with_code r.code x)) ≡ true
  has_word x v a =
      ap (λ (y : Part → ℕ). eqb (y opcode) r.code && r.format.allows y) (read (with_code r.code x) (coded_lt x v))
      ∙ (λ i. eq-eqb r.code r.code refl i && a i)

-- ---- families

-- a family keeps what a word has: its list has every operation, and its instructions give back the row and the parts
record Kept (F : Family) : Type 0 where
  member : (op : F.Op) → In op F.ops
  rows : (op : F.Op) (x : Part → ℕ) → row_of (F.make op x) ≡ F.row op
  parts : (op : F.Op) → T (sound (F.row op)) → (w : ℕ) → has (F.row op) w ≡ true → (q : Part) → parts_of (F.make op (values (F.row op).format w)) q ≡ values (F.row op).format w q

abbrev lack : (F : Family) → List Part → List F.Op → Bool
lack F qs [] = true
lack F qs (op ∷ ops) = lacks qs (F.row op) && lack F qs ops

lack_of : (F : Family) (qs : List Part) {op : F.Op} {ops : List F.Op} → In op ops → T (lack F qs ops) → T (lacks qs (F.row op))
lack_of F qs {op} (enum.here {xs = ops}) t = and_l (lacks qs (F.row op)) (lack F qs ops) t
lack_of F qs (enum.there {x = x} {xs = ops} h) t = lack_of F qs h (and_r (lacks qs (F.row x)) (lack F qs ops) t)

-- instructions with `operands`: the other parts are absent, and so 0
plain_parts : (r : Row) → T (sound r) → T (lacks (hint ∷ lsb ∷ msb ∷ []) r) → (w : ℕ) → has r w ≡ true → (q : Part) → with_code r.code (of_operands (operands (values r.format w))) q ≡ values r.format w q
plain_parts r t u w e opcode = has_code r t w e
plain_parts r t u w e rd = refl
plain_parts r t u w e rj = refl
plain_parts r t u w e rk = refl
plain_parts r t u w e imm = refl
plain_parts r t u w e hint = absent r t w hint (and_l (eqb (width r.format hint) 0) _ u)
plain_parts r t u w e lsb = absent r t w lsb (and_l (eqb (width r.format lsb) 0) _ (and_r (eqb (width r.format hint) 0) _ u))
plain_parts r t u w e msb = absent r t w msb (and_l (eqb (width r.format msb) 0) _ (and_r (eqb (width r.format lsb) 0) _ (and_r (eqb (width r.format hint) 0) _ u)))

-- instructions with `field_operands`: the other parts are absent, and so 0
field_parts : (r : Row) → T (sound r) → T (lacks (rk ∷ imm ∷ hint ∷ []) r) → (w : ℕ) → has r w ≡ true → (q : Part) → with_code r.code (of_field_operands (field_operands (values r.format w))) q ≡ values r.format w q
field_parts r t u w e opcode = has_code r t w e
field_parts r t u w e rd = refl
field_parts r t u w e rj = refl
field_parts r t u w e rk = absent r t w rk (and_l (eqb (width r.format rk) 0) _ u)
field_parts r t u w e imm = absent r t w imm (and_l (eqb (width r.format imm) 0) _ (and_r (eqb (width r.format rk) 0) _ u))
field_parts r t u w e hint = absent r t w hint (and_l (eqb (width r.format hint) 0) _ (and_r (eqb (width r.format imm) 0) _ (and_r (eqb (width r.format rk) 0) _ u)))
field_parts r t u w e lsb = refl
field_parts r t u w e msb = refl

-- instructions with `hint_operands`: the other parts are absent, and so 0
hinted_parts : (r : Row) → T (sound r) → T (lacks (rd ∷ lsb ∷ msb ∷ []) r) → (w : ℕ) → has r w ≡ true → (q : Part) → with_code r.code (of_hint_operands (hint_operands (values r.format w))) q ≡ values r.format w q
hinted_parts r t u w e opcode = has_code r t w e
hinted_parts r t u w e rd = absent r t w rd (and_l (eqb (width r.format rd) 0) _ u)
hinted_parts r t u w e rj = refl
hinted_parts r t u w e rk = refl
hinted_parts r t u w e imm = refl
hinted_parts r t u w e hint = refl
hinted_parts r t u w e lsb = absent r t w lsb (and_l (eqb (width r.format lsb) 0) _ (and_r (eqb (width r.format rd) 0) _ u))
hinted_parts r t u w e msb = absent r t w msb (and_l (eqb (width r.format msb) 0) _ (and_r (eqb (width r.format lsb) 0) _ (and_r (eqb (width r.format rd) 0) _ u)))

-- a kind of operands: the parts that it lacks, and that its other parts are the word's
record Kind : Type 0 where
  without : List Part
  back : (Part → ℕ) → Part → ℕ
  whole : (r : Row) → T (sound r) → T (lacks without r) → (w : ℕ) → has r w ≡ true → (q : Part) → with_code r.code (back (values r.format w)) q ≡ values r.format w q

abbrev plain : Kind
plain = record { without = hint ∷ lsb ∷ msb ∷ []; back = λ x. of_operands (operands x); whole = plain_parts }

abbrev fielded : Kind
fielded = record { without = rk ∷ imm ∷ hint ∷ []; back = λ x. of_field_operands (field_operands x); whole = field_parts }

abbrev hinted : Kind
hinted = record { without = rd ∷ lsb ∷ msb ∷ []; back = λ x. of_hint_operands (hint_operands x); whole = hinted_parts }

keeps : (K : Kind) (F : Family) → ((op : F.Op) → In op F.ops) → T (lack F K.without F.ops) → ((op : F.Op) (x : Part → ℕ) → row_of (F.make op x) ≡ F.row op)
    → ((op : F.Op) (x : Part → ℕ) (q : Part) → parts_of (F.make op x) q ≡ with_code (F.row op).code (K.back x) q) → Kept F
keeps K F m t r p =
    record {
      member = m;
      rows = r;
      parts = λ op u w e q. p op (values (F.row op).format w) q ∙ K.whole (F.row op) u (lack_of F K.without (m op) t) w e q;
    }

-- a line for each family
alu_kept : Kept alu
alu_kept = keeps plain alu (enumerated Alu.enum alu.ops tt tt) tt (λ op x. refl) (λ op x q. refl)

product_kept : Kept product
product_kept = keeps plain product (enumerated Product.enum product.ops tt tt) tt (λ op x. refl) (λ op x q. refl)

division_kept : Kept division
division_kept = keeps plain division (enumerated Division.enum division.ops tt tt) tt (λ op x. refl) (λ op x q. refl)

shift_kept : Kept shift
shift_kept = keeps plain shift (enumerated Shift.enum shift.ops tt tt) tt (λ op x. refl) (λ op x q. refl)

shift_immediate_kept : Kept shift_immediate
shift_immediate_kept = keeps plain shift_immediate (enumerated Shift.enum shift_immediate.ops tt tt) tt (λ op x. refl) (λ op x q. refl)

immediate_kept : Kept immediate
immediate_kept = keeps plain immediate (enumerated Immediate.enum immediate.ops tt tt) tt (λ op x. refl) (λ op x q. refl)

upper_kept : Kept upper
upper_kept = keeps plain upper (enumerated Upper.enum upper.ops tt tt) tt (λ op x. refl) (λ op x q. refl)

alsl_kept : Kept alsl
alsl_kept = keeps plain alsl (enumerated Alsl.enum alsl.ops tt tt) tt (λ op x. refl) (λ op x q. refl)

bytepick_kept : Kept bytepick
bytepick_kept = keeps plain bytepick (enumerated Bytepick.enum bytepick.ops tt tt) tt (λ op x. refl) (λ op x q. refl)

unary_kept : Kept unary
unary_kept = keeps plain unary (enumerated Unary.enum unary.ops tt tt) tt (λ op x. refl) (λ op x q. refl)

field_kept : Kept field
field_kept = keeps fielded field (enumerated Field.enum field.ops tt tt) tt (λ op x. refl) (λ op x q. refl)

branch_kept : Kept branch
branch_kept = keeps plain branch (enumerated Branch.enum branch.ops tt tt) tt (λ op x. refl) (λ op x q. refl)

zero_branch_kept : Kept zero_branch
zero_branch_kept = keeps plain zero_branch (enumerated ZeroBranch.enum zero_branch.ops tt tt) tt (λ op x. refl) (λ op x q. refl)

jump_kept : Kept jump
jump_kept = keeps plain jump (enumerated Jump.enum jump.ops tt tt) tt (λ op x. refl) (λ op x q. refl)

load_kept : Kept load
load_kept = keeps plain load (enumerated Load.enum load.ops tt tt) tt (λ op x. refl) (λ op x q. refl)

load_indexed_kept : Kept load_indexed
load_indexed_kept = keeps plain load_indexed (enumerated Load.enum load_indexed.ops tt tt) tt (λ op x. refl) (λ op x q. refl)

store_kept : Kept store
store_kept = keeps plain store (enumerated Store.enum store.ops tt tt) tt (λ op x. refl) (λ op x q. refl)

store_indexed_kept : Kept store_indexed
store_indexed_kept = keeps plain store_indexed (enumerated Store.enum store_indexed.ops tt tt) tt (λ op x. refl) (λ op x q. refl)

pointer_kept : Kept pointer
pointer_kept = keeps plain pointer (enumerated Pointer.enum pointer.ops tt tt) tt (λ op x. refl) (λ op x q. refl)

preload_kept : Kept preload
preload_kept = keeps hinted preload (enumerated Preload.enum preload.ops tt tt) tt (λ op x. refl) (λ op x q. refl)

barrier_kept : Kept barrier
barrier_kept = keeps plain barrier (enumerated Barrier.enum barrier.ops tt tt) tt (λ op x. refl) (λ op x q. refl)

trap_kept : Kept trap
trap_kept = keeps plain trap (enumerated Trap.enum trap.ops tt tt) tt (λ op x. refl) (λ op x q. refl)

assert_kept : Kept assert
assert_kept = keeps plain assert (enumerated Assert.enum assert.ops tt tt) tt (λ op x. refl) (λ op x q. refl)

config_kept : Kept config
config_kept = keeps plain config (enumerated Config.enum config.ops tt tt) tt (λ op x. refl) (λ op x q. refl)

-- ---- a word that exists is its instruction's word

abbrev Kepts : List Family → Type 0
Kepts [] = Unit
Kepts (F ∷ Fs) = Kept F × Kepts Fs

all_kept : Kepts families
all_kept = (alu_kept, (product_kept, (division_kept, (shift_kept, (shift_immediate_kept, (immediate_kept, (upper_kept, (alsl_kept, (bytepick_kept, (unary_kept, (field_kept, (branch_kept, (zero_branch_kept, (jump_kept, (load_kept, (load_indexed_kept, (store_kept, (store_indexed_kept, (pointer_kept, (preload_kept, (barrier_kept, (trap_kept, (assert_kept, (config_kept, tt))))))))))))))))))))))))

-- what a word that exists says of its instruction
record Came (w : ℕ) (i : Instruction) : Type 0 where
  well : T (sound (row_of i))
  from : has (row_of i) w ≡ true
  same_parts : parts_of i ≡ values (row_of i).format w

module _ (w : ℕ) (i : Instruction) where
  made : (F : Family) → Kept F → (op : F.Op) → T (sound (F.row op)) → has (F.row op) w ≡ true → F.make op (values (F.row op).format w) ≡ i → Came w i
  made F k op t e z =
      let x = values (F.row op).format w in
      let q : row_of i ≡ F.row op = ap row_of (sym z) ∙ k.rows op x in
      record {
        well = subst (λ (r : Row). T (sound r)) (sym q) t;
        from = subst (λ (r : Row). has r w ≡ true) (sym q) e;
        same_parts = ap parts_of (sym z) ∙ (λ j p. k.parts op t w e p j) ∙ ap (λ (r : Row). values r.format w) (sym q);
      }

  in_entries : (F : Family) → Kept F → (ops : List F.Op) (es : List Entry) → T (every sound (entries F ops ++ es)) → (T (every sound es) → decode_in es w ≡ Some i → Came w i) → decode_in (entries F ops ++ es) w ≡ Some i → Came w i
  in_entries F k [] es t next e = next t e
  in_entries F k (op ∷ ops) es t next e =
      by (has (F.row op) w) refl e (in_entries F k ops es (and_r (sound (F.row op)) _ t) next)
    where
      by : (b : Bool) → has (F.row op) w ≡ b → cond b (Some (F.make op (values (F.row op).format w))) (decode_in (entries F ops ++ es) w) ≡ Some i
          → (decode_in (entries F ops ++ es) w ≡ Some i → Came w i) → Came w i
      by true h d later = let z : F.make op (values (F.row op).format w) ≡ i = cc in made F k op (and_l (sound (F.row op)) _ t) h z
      by false h d later = later d

  in_families : (Fs : List Family) → Kepts Fs → T (every sound (all_entries Fs)) → decode_in (all_entries Fs) w ≡ Some i → Came w i
  in_families [] ks t e = let z : ◌≡◌ {A = ℕ} 0 1 = cc in absurd (no_one z)
    where
      no_one : ◌≡◌ {A = ℕ} 0 1 → ⊥
      no_one z = omega arith
  in_families (F ∷ Fs) ks t e = in_entries F ks.0 F.ops (all_entries Fs) t (in_families Fs ks.1) e

  came : decode_of w ≡ Some i → Came w i
  unfolding table decode_of
  came e = in_families families all_kept rows_sound e

-- every word that exists is the word of its instruction
pub encoded : (w : ℕ) (i : Instruction) → w < 2 ^ 32 → decode_of w ≡ Some i → encode_of i ≡ w
encoded w i h e = let c = came w i e in ap (word_of (row_of i).format.pieces) c.same_parts ∙ written (row_of i) c.well w h

-- so two words that exist have different instructions
pub lossless : (v w : ℕ) (i : Instruction) → v < 2 ^ 32 → w < 2 ^ 32 → decode_of v ≡ Some i → decode_of w ≡ Some i → v ≡ w
lossless v w i g h d e = sym (encoded v i g d) ∙ encoded w i h e

no_opcode : (i : Instruction) → operands_of i opcode ≡ 0
no_opcode (instruction.Alu op o) = refl
no_opcode (instruction.Product op o) = refl
no_opcode (instruction.Division op o) = refl
no_opcode (instruction.Shift op o) = refl
no_opcode (instruction.ShiftImmediate op o) = refl
no_opcode (instruction.Immediate op o) = refl
no_opcode (instruction.Upper op o) = refl
no_opcode (instruction.Alsl op o) = refl
no_opcode (instruction.Bytepick op o) = refl
no_opcode (instruction.Unary op o) = refl
no_opcode (instruction.Field op o) = refl
no_opcode (instruction.Branch op o) = refl
no_opcode (instruction.ZeroBranch op o) = refl
no_opcode (instruction.Jump op o) = refl
no_opcode (instruction.Load op o) = refl
no_opcode (instruction.LoadIndexed op o) = refl
no_opcode (instruction.Store op o) = refl
no_opcode (instruction.StoreIndexed op o) = refl
no_opcode (instruction.Pointer op o) = refl
no_opcode (instruction.Preload op o) = refl
no_opcode (instruction.Barrier op o) = refl
no_opcode (instruction.Trap op o) = refl
no_opcode (instruction.Assert op o) = refl
no_opcode (instruction.Config op o) = refl

both_r : (a b : Bool) → a && b ≡ true → b ≡ true
both_r true b e = e
both_r false b e = absurd (false_true e)
  where
    false_true : false ≡ true → ⊥
    false_true h = subst T (sym h) tt

-- what is decoded has its operands in range
pub in_range : (w : ℕ) (i : Instruction) → decode_of w ≡ Some i → InRange i
in_range w i e = (low_enough, ap (row_of i).format.allows c.same_parts ∙ both_r (eqb (values (row_of i).format w opcode) (row_of i).code) _ c.from)
  where
    c : Came w i
    c = came w i e

    at : (q : Part) → parts_of i q < 2 ^ width (row_of i).format q
    at q = subst (λ (n : ℕ). n < 2 ^ width (row_of i).format q) (sym (λ j. c.same_parts j q)) (value_lt (row_of i) c.well w q)

    low_enough : (q : Part) → operands_of i q < 2 ^ width (row_of i).format q
    low_enough opcode = subst (λ (n : ℕ). n < 2 ^ width (row_of i).format opcode) (sym (no_opcode i)) (pow_pos (width (row_of i).format opcode))
    low_enough rd = at rd
    low_enough rj = at rj
    low_enough rk = at rk
    low_enough imm = at imm
    low_enough hint = at hint
    low_enough lsb = at lsb
    low_enough msb = at msb

-- ---- an instruction with operands in range is what its word is

-- the n-th family
abbrev nth : ℕ → List Family → Family
nth n [] = alu
nth zero (F ∷ Fs) = F
nth (suc n) (F ∷ Fs) = nth n Fs

abbrev within : ℕ → List Family → Bool
within n [] = false
within zero (F ∷ Fs) = true
within (suc n) (F ∷ Fs) = within n Fs

has_left : {e : Entry} (es fs : List Entry) → Has e es → Has e (es ++ fs)
has_left {e = e} [] fs x = elim x [ ]
has_left (e ∷ es) fs here = here
has_left (f ∷ es) fs (there h) = there (has_left es fs h)

has_right : {e : Entry} (es fs : List Entry) → Has e fs → Has e (es ++ fs)
has_right [] fs h = h
has_right (e ∷ es) fs h = there (has_right es fs h)

has_op : (F : Family) {op : F.Op} {ops : List F.Op} → In op ops → Has (entry F op) (entries F ops)
has_op F enum.here = here
has_op F (enum.there h) = there (has_op F h)

has_nth : (n : ℕ) (Fs : List Family) → T (within n Fs) → (op : (nth n Fs).Op) → In op (nth n Fs).ops → Has (entry (nth n Fs) op) (all_entries Fs)
has_nth n [] t op h = absurd t
has_nth zero (F ∷ Fs) t op h = has_left (entries F F.ops) (all_entries Fs) (has_op F h)
has_nth (suc n) (F ∷ Fs) t op h = has_right (entries F F.ops) (all_entries Fs) (has_nth n Fs t op h)

-- for an entry of the table
decoded_by : (e : Entry) → Has e table → (x : Part → ℕ) → ((q : Part) → x q < 2 ^ width e.row.format q) → e.row.format.allows (with_code e.row.code x) ≡ true
    → decode_of (word_of e.row.format.pieces (with_code e.row.code x)) ≡ Some (e.make (with_code e.row.code x))
unfolding decode_of
decoded_by e h x v a =
    let t = every_of sound h rows_sound in
    let y = with_code e.row.code x in
    found (word_of e.row.format.pieces y) (word_fits e.row t y) h rows_joined rows_apart (has_word e.row t x v a)
    ∙ ap (λ (z : Part → ℕ). Some (e.make z)) (read e.row t y (coded_lt e.row t x v))

decoded_at : (n : ℕ) → T (within n families) → Kept (nth n families) → (op : (nth n families).Op) (x : Part → ℕ) → ((q : Part) → x q < 2 ^ width ((nth n families).row op).format q)
    → ((nth n families).row op).format.allows (with_code ((nth n families).row op).code x) ≡ true
    → decode_of (word_of ((nth n families).row op).format.pieces (with_code ((nth n families).row op).code x)) ≡ Some ((nth n families).make op (with_code ((nth n families).row op).code x))
unfolding table
decoded_at n t k op x v a = decoded_by (entry (nth n families) op) (has_nth n families t op (k.member op)) x v a

-- every instruction with operands in range is what its word decodes to
pub decoded : (i : Instruction) → InRange i → decode_of (encode_of i) ≡ Some i
decoded (instruction.Alu op o) v = decoded_at 0 tt alu_kept op (of_operands o) v.0 v.1
decoded (instruction.Product op o) v = decoded_at 1 tt product_kept op (of_operands o) v.0 v.1
decoded (instruction.Division op o) v = decoded_at 2 tt division_kept op (of_operands o) v.0 v.1
decoded (instruction.Shift op o) v = decoded_at 3 tt shift_kept op (of_operands o) v.0 v.1
decoded (instruction.ShiftImmediate op o) v = decoded_at 4 tt shift_immediate_kept op (of_operands o) v.0 v.1
decoded (instruction.Immediate op o) v = decoded_at 5 tt immediate_kept op (of_operands o) v.0 v.1
decoded (instruction.Upper op o) v = decoded_at 6 tt upper_kept op (of_operands o) v.0 v.1
decoded (instruction.Alsl op o) v = decoded_at 7 tt alsl_kept op (of_operands o) v.0 v.1
decoded (instruction.Bytepick op o) v = decoded_at 8 tt bytepick_kept op (of_operands o) v.0 v.1
decoded (instruction.Unary op o) v = decoded_at 9 tt unary_kept op (of_operands o) v.0 v.1
decoded (instruction.Field op o) v = decoded_at 10 tt field_kept op (of_field_operands o) v.0 v.1
decoded (instruction.Branch op o) v = decoded_at 11 tt branch_kept op (of_operands o) v.0 v.1
decoded (instruction.ZeroBranch op o) v = decoded_at 12 tt zero_branch_kept op (of_operands o) v.0 v.1
decoded (instruction.Jump op o) v = decoded_at 13 tt jump_kept op (of_operands o) v.0 v.1
decoded (instruction.Load op o) v = decoded_at 14 tt load_kept op (of_operands o) v.0 v.1
decoded (instruction.LoadIndexed op o) v = decoded_at 15 tt load_indexed_kept op (of_operands o) v.0 v.1
decoded (instruction.Store op o) v = decoded_at 16 tt store_kept op (of_operands o) v.0 v.1
decoded (instruction.StoreIndexed op o) v = decoded_at 17 tt store_indexed_kept op (of_operands o) v.0 v.1
decoded (instruction.Pointer op o) v = decoded_at 18 tt pointer_kept op (of_operands o) v.0 v.1
decoded (instruction.Preload op o) v = decoded_at 19 tt preload_kept op (of_hint_operands o) v.0 v.1
decoded (instruction.Barrier op o) v = decoded_at 20 tt barrier_kept op (of_operands o) v.0 v.1
decoded (instruction.Trap op o) v = decoded_at 21 tt trap_kept op (of_operands o) v.0 v.1
decoded (instruction.Assert op o) v = decoded_at 22 tt assert_kept op (of_operands o) v.0 v.1
decoded (instruction.Config op o) v = decoded_at 23 tt config_kept op (of_operands o) v.0 v.1
