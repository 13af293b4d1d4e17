-- `writer::put_registers` meets its contract.
use Rattle.std.proofs.Common.{◌≡◌, drop}
use Rattle.file.specs.Format.{bytes_of_each}
use Rattle.page.specs.declared.Page.{Page}
use Rattle.page.specs.Page.{Room, Puts}
use Rattle.writer.proofs.put_registers.Given as goal

-- there is room for the registers that are still to come, and what puts them puts all on the page as it came
abbrev pub invariant-loop-value : goal.invariant-loop-value
invariant-loop-value l =
    (l.value-items ≡ drop 1 l.fn.session.regs)
    × Room (bytes_of_each (drop l.value-index l.value-items)) l.page
    × ((q : Page) → Puts (bytes_of_each (drop l.value-index l.value-items)) l.page q → Puts (bytes_of_each l.value-items) l.initial.page q)
