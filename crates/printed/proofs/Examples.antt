-- 01's sentences on what is printed, each on a whole text: both sides are computed.
use Rattle.std.specs.Prelude.{◌≡◌, refl, map}
use Rattle.printed.specs.Digits.{ascii, digits, places, decimal, hex16}
use Rattle.printed.specs.Lines.{counted, valued, count_line, numbers_line, stop_line, register_line, register_lines, state_lines, outcome_lines, printed_of}
use Rattle.printed.specs.Examples.{Row, rows}

pub as_typed : map (λ (x : Row). printed_of x.given) rows ≡ map (λ (x : Row). ascii x.text) rows
unfolding digits places decimal hex16 counted valued count_line numbers_line stop_line register_line register_lines state_lines outcome_lines
as_typed = refl
