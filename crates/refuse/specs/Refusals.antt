-- 01, "Refusal numbers": when each refusal of a run is due, on whole numbers, and which one is given. No sum here wraps.
use Rattle.std.specs.Prelude.{ℕ, ◌+◌, ◌%◌, Bool, cond, ◌||◌, not, List, [], ◌∷◌, map, ltb, eqb, get_or, Result, Ok, Err}
use Rattle.place.specs.declared.Window.{Window}
use Rattle.place.specs.Place.{code_max, window_max}
use Rattle.session.specs.declared.Session.{Session}
use Rattle.session.specs.declared.Refusal.{Refusal}
use Rattle.session.specs.declared.Refusal.TheVariants.{CodeLength, WindowLength, WindowPlace, ZeroRegister, Budget, Total}
use Rattle.session.specs.Session.{budget_max, total_max}
use Rattle.session.specs.Numbers.{number_of}

-- 1: "code length over 65,536 or not a multiple of 4"
unfoldable pub code_due : ℕ → Bool
code_due len = ltb code_max len || not (eqb (len % 4) 0)

-- 2: "window length over 65,536"
unfoldable pub window_due : Window → Bool
window_due w = ltb window_max w.len

-- 3: "window offset plus window length, as whole numbers, exceeds the arena's length"
unfoldable pub place_due : Window → ℕ → Bool
place_due w arena = ltb arena (w.start.0 + w.len)

-- 4: "register 0 of the session given is not zero"
unfoldable pub zero_due : Session → Bool
zero_due s = not (eqb (get_or s.regs 0 0) 0)

-- 5: "budget over 1,000,000"
unfoldable pub budget_due : ℕ → Bool
budget_due budget = ltb budget_max budget

-- 6: "total plus budget exceeds 2^63, as whole numbers"
unfoldable pub total_due : Session → ℕ → Bool
total_due s budget = ltb total_max (s.total + budget)

-- a refusal, and whether it is due
pub record Test : Type 0 where
  pub refusal : Refusal
  pub due : Bool

abbrev pub test : Refusal → Bool → Test
test r due = record { refusal = r; due = due }

-- the first that is due is the one that is given
abbrev pub verdict_of : List Test → Result (Unit {0}) Refusal
verdict_of [] = Ok tt
verdict_of (t ∷ ts) = cond t.due (Err t.refusal) (verdict_of ts)

-- a verdict by 01's numbers: the refusal's, or 0
abbrev pub refused_of : {T : Type 0} → Result T Refusal → ℕ
refused_of (Ok _) = 0
refused_of (Err r) = number_of r

-- "Lowest of 1 to 6 first for a run."
abbrev pub run_tests : ℕ → ℕ → Window → Session → ℕ → List Test
run_tests code arena w s budget =
    test CodeLength (code_due code)
    ∷ test WindowLength (window_due w)
    ∷ test WindowPlace (place_due w arena)
    ∷ test ZeroRegister (zero_due s)
    ∷ test Budget (budget_due budget)
    ∷ test Total (total_due s budget)
    ∷ []

-- the numbers of a list of tests, in its order: 1 to 6 for a run (proofs/Order.antt, `run_order`)
abbrev pub order : List Test → List ℕ
order ts = map (λ (t : Test). number_of t.refusal) ts
