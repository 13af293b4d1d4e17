-- 01, "Stops": Ecode, subcode and the carried value of each fault.
use Rattle.std.specs.Prelude.{ℕ, Bool, cond, ◌&&◌, List, [], ◌∷◌, eqb}
use Rattle.fault.specs.declared.Fault.{Fault}
use Rattle.fault.specs.declared.Fault.TheVariants.{Adef, Adem, Ale, Bce, Syscall, Break, Ine}
use Rattle.fault.specs.declared.Telling.{Telling}

abbrev pub told_of : ℕ → ℕ → ℕ → Telling
told_of e s v = record { ecode = e; subcode = s; carried = v }

--                     Ecode  sub  carries
abbrev pub telling_of : Fault → Telling
telling_of (Adef pc) = told_of 8 0 pc.0
telling_of (Adem a) = told_of 8 1 a.0
telling_of (Ale a) = told_of 9 0 a.0
telling_of Bce = told_of 10 0 0
telling_of (Syscall c) = told_of 11 0 c
telling_of (Break c) = told_of 12 0 c
telling_of (Ine w) = told_of 13 0 w

-- One fault of each kind. Kinds are told apart by Ecode and subcode alone: no two of the list have both the same.
abbrev pub kinds : List Fault
kinds = Adef (record { 0 = 0 }) ∷ Adem (record { 0 = 0 }) ∷ Ale (record { 0 = 0 }) ∷ Bce ∷ Syscall 0 ∷ Break 0 ∷ Ine 0 ∷ []

abbrev pub same_kind : Telling → Telling → Bool
same_kind s t = eqb s.ecode t.ecode && eqb s.subcode t.subcode

-- From the numbers back to the fault: Ecode and subcode alone say which kind it is. So two faults with the same numbers are the same
-- fault, whatever they carry; a kind that is added without numbers of its own is refused here.
abbrev pub untold : Telling → Fault
untold t =
    cond (eqb t.ecode 8) (cond (eqb t.subcode 0) (Adef (record { 0 = t.carried })) (Adem (record { 0 = t.carried })))
    (cond (eqb t.ecode 9) (Ale (record { 0 = t.carried }))
    (cond (eqb t.ecode 10) Bce
    (cond (eqb t.ecode 11) (Syscall t.carried)
    (cond (eqb t.ecode 12) (Break t.carried) (Ine t.carried)))))
