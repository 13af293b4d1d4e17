-- 01: "The bench program reads code bytes from standard input, runs them with all registers 0, pc 0x10000, total 0, a 64-byte zero
-- window, budget 1,000."
use Rattle.std.specs.Prelude.{ℕ, List, replicate}
use Rattle.place.specs.declared.Window.{Window}
use Rattle.apply.specs.Machine.{ground_on}
use Rattle.session.specs.declared.Reply.{Reply}
use Rattle.session.specs.Session.{start_of}
use Rattle.running.specs.Call.{host_run_of}
use Rattle.printed.specs.Lines.{printed_of}

-- the arena is the window
abbrev pub bench_window : Window
bench_window = record { start = record { 0 = 0 }; len = 64 }

unfoldable pub bench_of : List ℕ → Reply
bench_of code = (host_run_of (ground_on code bench_window) start_of 1000 (replicate 64 0)).0

abbrev pub bench_text : List ℕ → List ℕ
bench_text code = printed_of (bench_of code)
