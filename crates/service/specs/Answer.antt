-- 01: "An answer tests 1, 4, 7; then it puts the host's 64-bit value in r4 and adds 4 to pc." And what `service::answer` promises, for all
-- inputs.
use Rattle.std.specs.Prelude.{ℕ, ◌≡◌, refl, Bool, false, not, List, [], ◌∷◌, length, set, Option, Some, None, Result, Ok, Err}
use Rattle.place.specs.declared.GuestAddr.{GuestAddr}
use Rattle.place.specs.Place.{plus_of}
use Rattle.isa.specs.declared.Trap.TheVariants.{Syscall}
use Rattle.opcode.specs.Table.{trap_row}
use Rattle.opcode.specs.Decode.{has}
use Rattle.cpu.specs.Step.{fetch_of}
use Rattle.session.specs.declared.Session.{Session}
use Rattle.session.specs.declared.Refusal.{Refusal}
use Rattle.session.specs.declared.Refusal.TheVariants.{CodeLength, ZeroRegister, NoSyscall}
use Rattle.session.specs.declared.Outcome.{Outcome}
use Rattle.session.specs.declared.Reply.{Reply}
use Rattle.session.specs.Numbers.{numbers_of}
use Rattle.refuse.specs.Refusals.{code_due, zero_due, Test, test, verdict_of, order}

-- a word is a SYSCALL: it has that row of the table (specs/Syscall.antt: exactly where decode says so)
unfoldable pub is_syscall : ℕ → Bool
is_syscall word = has (trap_row Syscall) word

abbrev pub call_at : Option ℕ → Bool
call_at (Some word) = is_syscall word
call_at None = false

-- 7: "answer: the pc is not a multiple of 4 inside code, or the word there is no SYSCALL"
unfoldable pub call_due : List ℕ → GuestAddr → Bool
call_due code pc = not (call_at (fetch_of code pc))

-- "An answer tests 1, 4, 7"
abbrev pub answer_tests : List ℕ → Session → List Test
answer_tests code s = test CodeLength (code_due (length code)) ∷ test ZeroRegister (zero_due s) ∷ test NoSyscall (call_due code s.pc) ∷ []

pub answer_order : (code : List ℕ) (s : Session) → order (answer_tests code s) ≡ 1 ∷ 4 ∷ 7 ∷ []
answer_order code s = refl

-- "then it puts the host's 64-bit value in r4 and adds 4 to pc": all else stays
abbrev pub answered : Session → ℕ → Session
answered s value = record { regs = set s.regs 4 value; pc = plus_of s.pc 4; total = s.total; note = s.note }

-- "Refused runs and answers return the session as it came, with step count 0"
abbrev pub answer_judged : Result (Unit {0}) Refusal → Session → ℕ → Reply
answer_judged (Ok tt) s value = record { outcome = Outcome.Answered; steps = 0; session = answered s value }
answer_judged (Err r) s value = record { outcome = Outcome.Refused r; steps = 0; session = s }

unfoldable pub host_answer_of : List ℕ → Session → ℕ → Reply
host_answer_of code s value = answer_judged (verdict_of (answer_tests code s)) s value

-- The promise of `service::answer`: of its inputs and its reply r
pub record Answers (code : List ℕ) (s : Session) (value : ℕ) (r : Reply) : Type 0 where
  -- outcome, step count and session
  pub reply : r ≡ host_answer_of code s value
  -- the outcome by 01's numbers: the refusal's, or 0
  pub numbers : numbers_of r.outcome ≡ numbers_of (host_answer_of code s value).outcome
