-- Whatever session comes into a function fits: this reads what owning it tells .
use mathlib.Core.Path.{◌≡◌}
use mathlib.Core.List.{List, [], ◌∷◌}
use Prim.Native.Nat.{ℕ, zero, suc, ◌<◌, ◌^◌}
use native.Mathlib.Omega.{arith}
use lib.ListN.{length, get_or}
use mir.Val.{Val}
use denote.Laws.{Is}
use denote.Shadow.{shadow}
use denote.Array.{each}
use denote.Struct.Field.{u64-field}
use denote.Struct.Declared.{row}
use Rattle.std.specs.Prelude.{Option, Some, None}
use Rattle.session.specs.contracts.Session.{the_type}
use Rattle.std.specs.contracts.option.Option.{the_field}
use Rattle.session.specs.contracts.Note.{the_row}
use Rattle.session.specs.declared.Session.{Session}
use Rattle.session.specs.declared.Note.{Note}
use Rattle.session.specs.Fit.{Fit, NoteFit}

-- `Is` of a type, computed: a u64's is its machine value and its bound (`.1`); a struct's has its fields in order behind `.1 .1`; an array's has
-- its length at `.1 .0 .1` and its elements at `.1 .1`; an enum's has the fields of its case, which it is known by, behind `.1 .1 .1 .1`.
each_lt : (xs : List ℕ) (us : List Val) → shadow (each ℕ u64-field.row.own_val xs us) → (i : ℕ) → get_or xs i 0 < 2 ^ 64
each_lt [] us h i = omega arith
each_lt (x ∷ xs) [] h i = absurd h
each_lt (x ∷ xs) (u ∷ us) h zero = h.0.1
each_lt (x ∷ xs) (u ∷ us) h (suc i) = each_lt xs us h.1 i

note_fits : (n : Option Note) (v : _) → shadow ((the_field the_row).row.own_val ((the_field the_row).into n) v) → NoteFit n
note_fits None v h = tt
note_fits (Some note) v h = let fields = h.1.1.1.1.0.1.1 in (fields.0.1, fields.1.0.1)

pub session_fits : (s : Session) (vs : List Val) → Is (row the_type) s vs → Fit s
session_fits s vs h =
    let fields = h.1.1 in
    let regs = fields.0.1 in
    let pc = fields.1.0.1.1 in
    let total = fields.1.1.0 in
    let count : length s.regs ≡ 32 = regs.0.1 in
    let bounds : (i : ℕ) → get_or s.regs i 0 < 2 ^ 64 = each_lt s.regs _ regs.1 in
    record {
      count = count;
      regs = bounds;
      pc = pc.0.1;
      total = total.1;
      note = note_fits s.note _ fields.1.1.1.0;
    }
