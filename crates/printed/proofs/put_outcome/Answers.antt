-- `printed::put_outcome` meets its contract.
use Rattle.printed.specs.Digits.{ascii}
use Rattle.printed.specs.Lines.{state_lines, outcome_lines}
use Rattle.page.proofs.Behind.{first_room, next_room, both}
use Rattle.printed.proofs.put_outcome.Goals as goal

pub put_stop-requires : goal.put_stop-requires
unfolding outcome_lines
put_stop-requires c = first_room _ _ c.args.page.now (rw c.in-Stopped.is at c.requires)

pub put_state-requires : goal.put_state-requires
unfolding outcome_lines
put_state-requires c = next_room _ _ c.args.page.now _ (rw c.in-Stopped.is at c.requires) c.put_stop.ensures

pub returns-in-Stopped : goal.returns-in-Stopped
unfolding outcome_lines
returns-in-Stopped c = rw c.in-Stopped.is (both _ _ _ _ _ c.put_stop.ensures c.put_state.ensures)

pub put-requires : goal.put-requires
unfolding outcome_lines
put-requires c =
    let a = c.args in first_room (ascii "answered\n") (state_lines a.steps a.session) a.page.now (rw c.in-Answered.is at c.requires)

pub put_state-requires-in-Answered : goal.put_state-requires-in-Answered
unfolding outcome_lines
put_state-requires-in-Answered c = next_room _ _ c.args.page.now _ (rw c.in-Answered.is at c.requires) c.put.ensures

pub returns-in-Answered : goal.returns-in-Answered
unfolding outcome_lines
returns-in-Answered c = rw c.in-Answered.is (both _ _ _ _ _ c.put.ensures c.put_state-in-Answered.ensures)

pub put_count-requires : goal.put_count-requires
unfolding outcome_lines
put_count-requires c = rw c.from.ensures (rw c.in-Refused.is at c.requires)

pub returns-in-Refused : goal.returns-in-Refused
unfolding outcome_lines
returns-in-Refused c = rw c.in-Refused.is (rw c.from.ensures at c.put_count.ensures)
