-- Isolation, one run (demand 3): "two arenas, windows with equal bytes, same code, session and budget: same stop, count, session and
-- window bytes, and no byte outside the window changes". The proofs are in proofs/Isolated.antt.
use Rattle.std.specs.Prelude.{ℕ, List}
use Rattle.place.specs.declared.Window.{Window}
use Rattle.apply.specs.Machine.{Ground, with_window}
use Rattle.session.specs.declared.Session.{Session}
use Rattle.session.specs.declared.Reply.{Reply}
use Rattle.running.specs.Run.{ran_of}
use Rattle.running.specs.Call.{host_run_of}
use Rattle.isolation.specs.Windows.{SameWindow, entry, Alike}

-- of what is given a window and an arena
abbrev pub Isolated : (Window → List ℕ → Reply × List ℕ) → Type 0
Isolated act = (v : Window) (A : List ℕ) (w : Window) (B : List ℕ) → SameWindow v A w B → Alike v w (entry A (act v A)) (entry B (act w B))

-- The manual's run, over the whole arena. `with_window w g` replaces the ground's own window by w: the two runs stand on the same but for their
-- windows, and the window that g itself has plays no part.
abbrev pub RunIsolated : Type 0
RunIsolated = (g : Ground) (s : Session) (budget : ℕ) → Isolated (λ w arena. ran_of (with_window w g) s budget arena)

-- the host's call, which may be refused
abbrev pub CallIsolated : Type 0
CallIsolated = (g : Ground) (s : Session) (budget : ℕ) → Isolated (λ w arena. host_run_of (with_window w g) s budget arena)
