-- Isolation along histories (demand 3): "also along any sequence of runs and answers with other sessions' runs between". The proof is in
-- proofs/Along.antt.
use Rattle.std.specs.Prelude.{ℕ, ◌≡◌, List, [], ◌∷◌}
use Rattle.place.specs.declared.Window.{Window}
use Rattle.place.specs.Place.{Inside}
use Rattle.apply.specs.Machine.{Ground, ground_on}
use Rattle.session.specs.declared.Session.{Session}
use Rattle.session.specs.declared.Reply.{Reply}
use Rattle.running.specs.Call.{host_run_of}
use Rattle.service.specs.Answer.{host_answer_of}
use Rattle.isolation.specs.Windows.{SameWindow, Entry, entry, Alike}

-- what a session does in its window
pub data Act : Type 0 where
  run : (code : List ℕ) (budget : ℕ) → Act
  answer : (code : List ℕ) (value : ℕ) → Act

-- a run of another session, in a window of its own
pub record Foreign : Type 0 where
  pub own_ground : Ground
  pub session : Session
  pub budget : ℕ

-- a history: own acts, and others' runs between them, in any order
pub data Event : Type 0 where
  own : Act → Event
  other : Foreign → Event

-- Both kinds of act may be refused: they are the host's calls.
abbrev pub acted : Act → Window → Session → List ℕ → Reply × List ℕ
acted (run code budget) w s arena = host_run_of (ground_on code w) s budget arena
acted (answer code value) w s arena = (host_answer_of code s value, arena)

-- the arena after another session's run
abbrev pub after_other : Foreign → List ℕ → List ℕ
after_other f arena = (host_run_of f.own_ground f.session f.budget arena).1

-- an entry for each own act; the session is the one that the act before it left
unfoldable pub entries : Window → List Event → Session → List ℕ → List Entry
entries w [] s arena = []
entries w (own a ∷ h) s arena =
    let r : Reply × List ℕ = acted a w s arena in
    entry arena r ∷ entries w h r.0.session r.1
entries w (other f ∷ h) s arena = entries w h s (after_other f arena)

-- the own acts of a history
unfoldable pub own_acts : List Event → List Act
own_acts [] = []
own_acts (own a ∷ h) = a ∷ own_acts h
own_acts (other f ∷ h) = own_acts h

-- two windows share no byte: no i lies in both. A window of length 0 shares no byte with any.
abbrev pub ShareNoByte : Window → Window → Type 0
ShareNoByte v w = (i : ℕ) → Inside v i → Inside w i → ⊥

-- the others' windows share no byte with this one
unfoldable pub OthersApart : Window → List Event → Type 0
OthersApart w [] = Unit {0}
OthersApart w (own a ∷ h) = OthersApart w h
OthersApart w (other f ∷ h) = ShareNoByte w f.own_ground.window × OthersApart w h

-- entry by entry, to the end of both
unfoldable pub AllAlike : Window → Window → List Entry → List Entry → Type 0
AllAlike v w [] [] = Unit {0}
AllAlike v w (x ∷ xs) (y ∷ ys) = Alike v w x y × AllAlike v w xs ys
AllAlike v w (x ∷ xs) [] = ⊥
AllAlike v w [] (y ∷ ys) = ⊥

-- One session with the same own acts in two arenas, whatever runs of other sessions stand between them on either side: after each own act
-- both sides have the same outcome, step count, session and window bytes, and it changed no byte outside the window.
abbrev pub HistoriesIsolated : Type 0
HistoriesIsolated =
    (v : Window) (A : List ℕ) (w : Window) (B : List ℕ) (g h : List Event) (s : Session) → SameWindow v A w B
    → OthersApart v g → OthersApart w h → own_acts g ≡ own_acts h → AllAlike v w (entries v g s A) (entries w h s B)
