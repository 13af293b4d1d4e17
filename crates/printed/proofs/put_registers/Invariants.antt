-- `printed::put_registers` meets its contract.
use Rattle.std.proofs.Common.{ℕ, List, drop}
use Rattle.printed.specs.Lines.{register_lines}
use Rattle.page.specs.declared.Page.{Page}
use Rattle.page.specs.Page.{Room, Puts}
use Rattle.printed.proofs.put_registers.Given as goal

-- the lines that are still to come
abbrev pub left : List ℕ → ℕ → List ℕ
left regs i = register_lines i (drop i regs)

-- there is room for them, and whatever puts them puts all lines on the page as it came
abbrev pub invariant-loop-i : goal.invariant-loop-i
invariant-loop-i l =
    Room (left l.regs l.i) l.page × ((q : Page) → Puts (left l.regs l.i) l.page q → Puts (register_lines 0 l.regs) l.initial.page q)
