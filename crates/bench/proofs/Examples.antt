-- The rows of specs/Examples come out as typed: "compute both sides".
use Rattle.std.specs.Prelude.{◌≡◌, refl, map}
use Rattle.place.specs.Place.{fetch_place_of}
use Rattle.byte_order.specs.Bytes.{get_le}
use Rattle.alu.specs.Immediate.{immediate_of}
use Rattle.shift.specs.Shift.{shift_of}
use Rattle.opcode.specs.Families.{table}
use Rattle.opcode.specs.Decode.{decode_of}
use Rattle.registers.specs.Registers.{reg, written}
use Rattle.effect.specs.Effect.{effect_of}
use Rattle.apply.specs.Apply.{apply_of}
use Rattle.cpu.specs.Step.{fetch_of, step_of}
use Rattle.refuse.specs.Refusals.{code_due, window_due, place_due, zero_due, budget_due, total_due}
use Rattle.running.specs.Run.{run_of, ran_of}
use Rattle.running.specs.Call.{host_run_of}
use Rattle.printed.specs.Digits.{ascii, digits, places, decimal, hex16}
use Rattle.printed.specs.Lines.{counted, valued, count_line, numbers_line, stop_line, register_line, register_lines, state_lines, outcome_lines}
use Rattle.bench.specs.Bench.{bench_of, bench_text}
use Rattle.bench.specs.Examples.{Row, rows}

pub as_typed : map (λ (x : Row). bench_text x.input) rows ≡ map (λ (x : Row). ascii x.text) rows
unfolding bench_of host_run_of code_due window_due place_due zero_due budget_due total_due ran_of run_of step_of fetch_of fetch_place_of apply_of effect_of decode_of table get_le reg written immediate_of shift_of digits places decimal hex16 counted valued count_line numbers_line stop_line register_line register_lines state_lines outcome_lines
as_typed = refl
