-- What the bench program prints of a reply. 01, "Bench cases": "Ecode and subcode in decimal, the carried value in 16 hex digits; steps in
-- decimal; pc; then each nonzero register by number. A spent budget prints `stop budget`. A refusal prints only `refused` and its
-- number".
use Rattle.std.specs.Prelude.{ℕ, suc, cond, List, [], ◌∷◌, ◌++◌, eqb}
use Rattle.fault.specs.declared.Telling.{Telling}
use Rattle.fault.specs.Fault.{telling_of}
use Rattle.session.specs.declared.Session.{Session}
use Rattle.session.specs.declared.Stop.{Stop}
use Rattle.session.specs.declared.Outcome.{Outcome}
use Rattle.session.specs.declared.Reply.{Reply}
use Rattle.session.specs.Numbers.{number_of}
use Rattle.printed.specs.Digits.{ascii, decimal, hex16}

-- a word and a number in decimal
unfoldable pub counted : List ℕ → ℕ → List ℕ
counted word n = word ++ decimal n

-- a word, a value in 16 hex digits, and the line's end
unfoldable pub valued : List ℕ → ℕ → List ℕ
valued word v = word ++ hex16 v ++ ascii "\n"

unfoldable pub numbers_line : Telling → List ℕ
numbers_line t = counted (ascii "stop ") t.ecode ++ counted (ascii " ") t.subcode ++ valued (ascii " ") t.carried

unfoldable pub stop_line : Stop → List ℕ
stop_line (Stop.Raised f) = numbers_line (telling_of f)
stop_line Stop.Spent = ascii "stop budget\n"

-- one line that ends with a number in decimal
unfoldable pub count_line : List ℕ → ℕ → List ℕ
count_line word n = counted word n ++ ascii "\n"

unfoldable pub register_line : ℕ → ℕ → List ℕ
register_line i v = cond (eqb v 0) [] (counted (ascii "r") i ++ valued (ascii " ") v)

-- the registers from number i on
unfoldable pub register_lines : ℕ → List ℕ → List ℕ
register_lines i [] = []
register_lines i (v ∷ vs) = register_line i v ++ register_lines (suc i) vs

unfoldable pub state_lines : ℕ → Session → List ℕ
state_lines steps s = count_line (ascii "steps ") steps ++ valued (ascii "pc ") s.pc.0 ++ register_lines 0 s.regs

-- An answer is no run: 01 has no line for it, so it gets a word of its own.
unfoldable pub outcome_lines : Outcome → ℕ → Session → List ℕ
outcome_lines (Outcome.Stopped stop) steps s = stop_line stop ++ state_lines steps s
outcome_lines Outcome.Answered steps s = ascii "answered\n" ++ state_lines steps s
outcome_lines (Outcome.Refused r) steps s = count_line (ascii "refused ") (number_of r)

abbrev pub printed_of : Reply → List ℕ
printed_of r = outcome_lines r.outcome r.steps r.session
