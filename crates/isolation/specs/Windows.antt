-- The words of the isolation theorems: two arenas with equal windows, and two calls that come to the same.
use Rattle.std.specs.Prelude.{ℕ, ◌+◌, ◌≤◌, ◌≡◌, List, length, get_or, take, drop}
use Rattle.place.specs.declared.Window.{Window}
use Rattle.place.specs.Place.{Inside}
use Rattle.session.specs.declared.Reply.{Reply}

-- the window lies in the arena
abbrev pub Fits : Window → List ℕ → Type 0
Fits w arena = w.start.0 + w.len ≤ length arena

-- its bytes
abbrev pub bytes_in : Window → List ℕ → List ℕ
bytes_in w arena = take w.len (drop w.start.0 arena)

-- Two arenas, each with a window that fits, at any offsets, of equal length and equal bytes. All else may differ, the arenas' lengths too.
pub record SameWindow (v : Window) (A : List ℕ) (w : Window) (B : List ℕ) : Type 0 where
  pub fits_a : Fits v A
  pub fits_b : Fits w B
  pub lengths : v.len ≡ w.len
  pub bytes : bytes_in v A ≡ bytes_in w B

-- the arena is as long as before, and every byte outside the window is as before
pub record OutsideUnchanged (w : Window) (before after : List ℕ) : Type 0 where
  pub as_long : length after ≡ length before
  pub bytes : (i : ℕ) → (Inside w i → ⊥) → get_or after i 0 ≡ get_or before i 0

-- an act of a session: the reply, and the arena before and after it
pub record Entry : Type 0 where
  pub reply : Reply
  pub before : List ℕ
  pub after : List ℕ

abbrev pub entry : List ℕ → Reply × List ℕ → Entry
entry before r = record { reply = r.0; before = before; after = r.1 }

-- two acts, one in each arena, that come to the same
pub record Alike (v w : Window) (a b : Entry) : Type 0 where
  -- the same stop or refusal, step count and session
  pub outcome : a.reply.outcome ≡ b.reply.outcome
  pub steps : a.reply.steps ≡ b.reply.steps
  pub session : a.reply.session ≡ b.reply.session
  -- the same window bytes
  pub window : bytes_in v a.after ≡ bytes_in w b.after
  -- and no byte outside the window was changed
  pub outside_a : OutsideUnchanged v a.before a.after
  pub outside_b : OutsideUnchanged w b.before b.after
