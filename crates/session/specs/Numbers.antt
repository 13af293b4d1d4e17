-- 01's numbers for every refusal, and for every way in which a run or an answer ends: "Refusal numbers" and "Stops".
use Rattle.std.specs.Prelude.{ℕ, cond, List, [], ◌∷◌, eqb}
use Rattle.fault.specs.declared.Telling.{Telling}
use Rattle.fault.specs.Fault.{told_of, telling_of}
use Rattle.session.specs.declared.Stop.{Stop}
use Rattle.session.specs.declared.Refusal.{Refusal}
use Rattle.session.specs.declared.Refusal.TheVariants.{CodeLength, WindowLength, WindowPlace, ZeroRegister, Budget, Total, NoSyscall, FileKind, FileCut, FileExtra, BufferLength}
use Rattle.session.specs.declared.Outcome.{Outcome}
use Rattle.session.specs.declared.Numbers.{Numbers}

-- "Refusal numbers"
abbrev pub number_of : Refusal → ℕ
number_of CodeLength = 1
number_of WindowLength = 2
number_of WindowPlace = 3
number_of ZeroRegister = 4
number_of Budget = 5
number_of Total = 6
number_of NoSyscall = 7
number_of FileKind = 11
number_of FileCut = 12
number_of FileExtra = 13
number_of BufferLength = 14

-- "Stops": a fault has Ecode, subcode and what it carries; "budget spent: none, nothing"
abbrev pub stop_numbers_of : Stop → Telling
stop_numbers_of (Stop.Raised f) = telling_of f
stop_numbers_of Stop.Spent = told_of 0 0 0

abbrev pub numbers_of : Outcome → Numbers
numbers_of (Outcome.Stopped stop) = record { refused = 0; stop = stop_numbers_of stop }
numbers_of Outcome.Answered = record { refused = 0; stop = told_of 0 0 0 }
numbers_of (Outcome.Refused refusal) = record { refused = number_of refusal; stop = told_of 0 0 0 }

-- Different refusals have different numbers: no two of the list have the same (proofs/Different.antt, `refusals_differ`).
abbrev pub refusals : List Refusal
refusals = CodeLength ∷ WindowLength ∷ WindowPlace ∷ ZeroRegister ∷ Budget ∷ Total ∷ NoSyscall ∷ FileKind ∷ FileCut ∷ FileExtra ∷ BufferLength ∷ []

-- From the number back to the refusal, so that none is forgotten: one that is added without a number of its own is refused in proofs/Different.antt (`numbered_back`).
abbrev pub numbered : ℕ → Refusal
numbered n =
    cond (eqb n 1) CodeLength
    (cond (eqb n 2) WindowLength
    (cond (eqb n 3) WindowPlace
    (cond (eqb n 4) ZeroRegister
    (cond (eqb n 5) Budget
    (cond (eqb n 6) Total
    (cond (eqb n 7) NoSyscall
    (cond (eqb n 11) FileKind
    (cond (eqb n 12) FileCut
    (cond (eqb n 13) FileExtra BufferLength)))))))))
