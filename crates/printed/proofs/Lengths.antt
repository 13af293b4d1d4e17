-- No text is longer than the page: bounds on the lines. Register by register they are also put.
use mathlib.Core.Path.{◌≡◌, refl}
use mathlib.Core.Bool.{Bool, true, false}
use mathlib.Core.List.{List, [], ◌∷◌, ◌++◌}
use Prim.Native.Nat.{ℕ, suc, ◌+◌, ◌*◌, ◌^◌, ◌≤◌, ◌<◌}
use native.Mathlib.Numerals.{add-one}
use native.Mathlib.Omega.{arith}
use lib.Dec.{eqb, lit<}
use lib.ListN.{length, drop, get_or, length-append, drop_of_length-le}
use lib.Seq.{drop-cons}
use Rattle.fault.specs.declared.Fault.{Fault}
use Rattle.fault.specs.declared.Telling.{Telling}
use Rattle.session.specs.declared.Session.{Session}
use Rattle.session.specs.declared.Stop.{Stop}
use Rattle.session.specs.declared.Outcome.{Outcome}
use Rattle.session.specs.declared.Refusal.{Refusal}
use Rattle.session.specs.declared.Refusal.TheVariants.{CodeLength, WindowLength, WindowPlace, ZeroRegister, Budget, Total, NoSyscall, FileKind, FileCut, FileExtra, BufferLength}
use Rattle.session.specs.Numbers.{number_of}
use Rattle.printed.specs.Digits.{ascii, decimal, hex16}
use Rattle.printed.specs.Lines.{counted, valued, count_line, numbers_line, stop_line, register_line, register_lines, state_lines, outcome_lines}
use Rattle.printed.proofs.Digits.{length_decimal, length_hex}

length_counted : (w : List ℕ) (k n : ℕ) → n < 10 ^ suc k → length (counted w n) ≤ length w + suc k
unfolding counted
length_counted w k n h = let e = length-append w (decimal n) in let d = length_decimal k n h in omega (arith, e, d)

length_valued : (w : List ℕ) (v : ℕ) → length (valued w v) ≡ length w + 17
unfolding valued
length_valued w v =
    let e = length-append (w ++ hex16 v) (ascii "\n") in
    let f = length-append w (hex16 v) in
    let d = length_hex v in
    omega (arith, e, f, d)

pub length_count : (w : List ℕ) (k n : ℕ) → n < 10 ^ suc k → length (count_line w n) ≤ length w + suc (suc k)
unfolding count_line
length_count w k n h = let e = length-append (counted w n) (ascii "\n") in let d = length_counted w k n h in omega (arith, e, d)

length_numbers : (t : Telling) → t.ecode < 10 ^ 2 → t.subcode < 10 ^ 1 → length (numbers_line t) ≤ 27
unfolding numbers_line
length_numbers t h k =
    let e = length-append (counted (ascii "stop ") t.ecode ++ counted (ascii " ") t.subcode) (valued (ascii " ") t.carried) in
    let f = length-append (counted (ascii "stop ") t.ecode) (counted (ascii " ") t.subcode) in
    let a = length_counted (ascii "stop ") 1 t.ecode h in
    let b = length_counted (ascii " ") 0 t.subcode k in
    let v = length_valued (ascii " ") t.carried in
    omega (arith, e, f, a, b, v)

pub length_stop : (s : Stop) → length (stop_line s) ≤ 27
unfolding stop_line
length_stop (Stop.Raised (Fault.Adef pc)) = length_numbers _ (lit< tt) (lit< tt)
length_stop (Stop.Raised (Fault.Adem a)) = length_numbers _ (lit< tt) (lit< tt)
length_stop (Stop.Raised (Fault.Ale a)) = length_numbers _ (lit< tt) (lit< tt)
length_stop (Stop.Raised Fault.Bce) = length_numbers _ (lit< tt) (lit< tt)
length_stop (Stop.Raised (Fault.Syscall n)) = length_numbers _ (lit< tt) (lit< tt)
length_stop (Stop.Raised (Fault.Break n)) = length_numbers _ (lit< tt) (lit< tt)
length_stop (Stop.Raised (Fault.Ine w)) = length_numbers _ (lit< tt) (lit< tt)
length_stop Stop.Spent = omega arith

length_register : (i v : ℕ) → i < 10 ^ 2 → length (register_line i v) ≤ 21
unfolding register_line
length_register i v h =
    let e = length-append (counted (ascii "r") i) (valued (ascii " ") v) in
    let a = length_counted (ascii "r") 1 i h in
    let b = length_valued (ascii " ") v in
    by (eqb v 0) refl (omega (arith, e, a, b))
  where
    by : (b : Bool) → eqb v 0 ≡ b → length (counted (ascii "r") i ++ valued (ascii " ") v) ≤ 21 → length (register_line i v) ≤ 21
    by true e l = rw e (omega arith)
    by false e l = rw e l

length_registers : (i : ℕ) (vs : List ℕ) → i + length vs ≤ 10 ^ 2 → length (register_lines i vs) ≤ 21 * length vs
unfolding register_lines
length_registers i [] h = omega arith
length_registers i (v ∷ vs) h =
    let e = length-append (register_line i v) (register_lines (suc i) vs) in
    let a = length_register i v (omega (arith, h)) in
    let b = length_registers (suc i) vs (omega (arith, h)) in
    omega (arith, e, a, b)

pub length_state : (steps : ℕ) (s : Session) → steps < 2 ^ 64 → length s.regs ≡ 32 → length (state_lines steps s) ≤ 719
unfolding state_lines
length_state steps s h k =
    let front : List ℕ = count_line (ascii "steps ") steps ++ valued (ascii "pc ") s.pc.0 in
    let e = length-append front (register_lines 0 s.regs) in
    let f = length-append (count_line (ascii "steps ") steps) (valued (ascii "pc ") s.pc.0) in
    let most : 2 ^ 64 < 10 ^ 20 = lit< tt in
    let a = length_count (ascii "steps ") 19 steps (omega (arith, h, most)) in
    let b = length_valued (ascii "pc ") s.pc.0 in
    let r = length_registers 0 s.regs (omega (arith, k)) in
    omega (arith, e, f, a, b, r, k)

-- 01's numbers have two digits at most
refusal_number : (r : Refusal) → number_of r < 10 ^ 2
refusal_number CodeLength = lit< tt
refusal_number WindowLength = lit< tt
refusal_number WindowPlace = lit< tt
refusal_number ZeroRegister = lit< tt
refusal_number Budget = lit< tt
refusal_number Total = lit< tt
refusal_number NoSyscall = lit< tt
refusal_number FileKind = lit< tt
refusal_number FileCut = lit< tt
refusal_number FileExtra = lit< tt
refusal_number BufferLength = lit< tt

-- the longest text of all
pub length_outcome : (o : Outcome) (steps : ℕ) (s : Session) → steps < 2 ^ 64 → length s.regs ≡ 32 → length (outcome_lines o steps s) ≤ 746
unfolding outcome_lines
length_outcome (Outcome.Stopped stop) steps s h k =
    let e = length-append (stop_line stop) (state_lines steps s) in
    let a = length_stop stop in
    let b = length_state steps s h k in
    omega (arith, e, a, b)
length_outcome Outcome.Answered steps s h k =
    let e = length-append (ascii "answered\n") (state_lines steps s) in
    let b = length_state steps s h k in
    omega (arith, e, b)
length_outcome (Outcome.Refused r) steps s h k = let a = length_count (ascii "refused ") 1 (number_of r) (refusal_number r) in omega (arith, a)

-- the registers from i on: the first of them and the others, or none
pub registers_turn : (rs : List ℕ) (i : ℕ) → i < length rs
    → register_lines i (drop i rs) ≡ register_line i (get_or rs i 0) ++ register_lines (i + 1) (drop (i + 1) rs)
unfolding register_lines
registers_turn rs i h = rw (drop-cons rs i 0 h, add-one) refl

pub registers_none : (rs : List ℕ) (i : ℕ) → length rs ≤ i → register_lines i (drop i rs) ≡ []
unfolding register_lines
registers_none rs i h = rw (drop_of_length-le rs h) refl
