-- `service::answer` meets its promise.
use mathlib.Core.Path.{◌≡◌, refl, sym, ap, ◌∙◌}
use mathlib.Core.List.{List}
use Prim.Native.Nat.{ℕ}
use borrow.Author.Rules.{rules}
use Rattle.session.specs.declared.Session.{Session}
use Rattle.session.specs.declared.Reply.{Reply}
use Rattle.session.specs.Numbers.{numbers_of}
use Rattle.session.specs.declared.Refusal.{Refusal}
use Rattle.std.specs.Prelude.{Result}
use Rattle.refuse.specs.Refusals.{verdict_of}
use Rattle.service.specs.Answer.{answer_tests, answer_judged, host_answer_of, Answers}
use Rattle.service.proofs.answer.Goals as goal

-- the reply, from what the tests came to
by_verdict : (code : List ℕ) (s : Session) (value : ℕ) (v : Result (Unit {0}) Refusal) (r : Reply) → verdict_of (answer_tests code s) ≡ v → r ≡ answer_judged v s value
    → Answers code s value r
unfolding host_answer_of
by_verdict code s value v r q e =
    let f : r ≡ host_answer_of code s value = rw q e in
    record { reply = f; numbers = ap (λ (x : Reply). numbers_of x.outcome) f }

pub returns-in-Ok : goal.returns-in-Ok
returns-in-Ok c =
    let a = c.args in
    by_verdict a.code.now a.session a.value _ _ (sym c.judge.ensures ∙ c.in-Ok.is) (rw c.plus.ensures refl)

pub returns-in-Err : goal.returns-in-Err
returns-in-Err c =
    let a = c.args in
    by_verdict a.code.now a.session a.value _ _ (sym c.judge.ensures ∙ c.in-Err.is) refl
