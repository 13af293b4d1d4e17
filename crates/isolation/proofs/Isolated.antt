-- A run in two arenas with equal windows, and the host's call: both come to the same, and change nothing outside the window.
use mathlib.Core.Path.{◌≡◌, refl, ap, subst, ◌∙◌}
use mathlib.Core.Bool.{false}
use mathlib.Core.List.{List}
use Prim.Native.Nat.{ℕ, suc, ◌+◌}
use lib.ListN.{length}
use borrow.Author.Tests.{le-ltb}
use Rattle.std.specs.Prelude.{Result, Ok, Err}
use Rattle.place.specs.declared.Window.{Window}
use Rattle.fault.specs.declared.Fault.{Fault}
use Rattle.apply.specs.Machine.{Ground, State, Ended, with_window, with_arena, done, raised}
use Rattle.cpu.specs.Step.{step_of}
use Rattle.stepping.proofs.Kept.{length_stays, outside_stays}
use Rattle.session.specs.declared.Session.{Session}
use Rattle.session.specs.declared.Stop.{Stop}
use Rattle.session.specs.declared.Reply.{Reply}
use Rattle.session.specs.declared.Refusal.{Refusal}
use Rattle.refuse.specs.Refusals.{window_due, place_due, verdict_of}
use Rattle.running.specs.Run.{Went, stopped, counted, reply_of, run_of, state_of, ran_of}
use Rattle.running.specs.Call.{judged, tests_of, host_run_of}
use Rattle.running.proofs.Turning.{run_none, run_done, run_raised}
use Rattle.running.proofs.Every.{of_run}
use Rattle.isolation.specs.Windows.{Fits, OutsideUnchanged, entry, Alike}
use Rattle.isolation.specs.OneRun.{RunIsolated, CallIsolated}
use Rattle.isolation.proofs.Twins.{Twins, SameStep, SameRun, Same, twins, same_bytes}
use Rattle.isolation.proofs.Steps.{same_step}

-- ---- one arena: nothing outside the window changes

pub unchanged : (w : Window) (arena : List ℕ) → OutsideUnchanged w arena arena
unchanged w arena = record { as_long = refl; bytes = λ i out. refl }

-- one change after another
then : (w : Window) (A B C : List ℕ) → OutsideUnchanged w A B → OutsideUnchanged w B C → OutsideUnchanged w A C
then w A B C p q = record { as_long = q.as_long ∙ p.as_long; bytes = λ i out. q.bytes i out ∙ p.bytes i out }

outside_step : (g : Ground) (s : State) → OutsideUnchanged g.window s.arena (step_of g s).state.arena
outside_step g s = record { as_long = length_stays g s; bytes = outside_stays g s }

outside_run : (g : Ground) (n : ℕ) (s : State) → OutsideUnchanged g.window s.arena (run_of g n s).state.arena
outside_run g =
    of_run g (λ n s r. OutsideUnchanged g.window s.arena r.state.arena)
    (λ s. unchanged g.window s.arena)
    (λ n s f d. unchanged g.window s.arena)
    (λ n s u r d rest.
    then g.window s.arena u.arena r.state.arena
    (subst (λ (e : Ended). OutsideUnchanged g.window s.arena e.state.arena) d (outside_step g s)) rest)

-- refused or not
pub outside_call : (g : Ground) (s : Session) (budget : ℕ) (arena : List ℕ) → OutsideUnchanged g.window arena (host_run_of g s budget arena).1
unfolding host_run_of ran_of
outside_call g s budget arena = go (verdict_of (tests_of g s budget arena))
  where
    go : (v : Result (Unit {0}) Refusal) → OutsideUnchanged g.window arena (judged v s arena (reply_of s (run_of g budget (state_of s arena)))).1
    go (Ok tt) = outside_run g budget (state_of s arena)
    go (Err r) = unchanged g.window arena

-- ---- two arenas

placed : (w : Window) (arena : List ℕ) → Fits w arena → place_due w (length arena) ≡ false
unfolding place_due
placed w arena f = le-ltb (length arena) (w.start.0 + w.len) f

same_window_due : (v w : Window) → v.len ≡ w.len → window_due v ≡ window_due w
unfolding window_due
same_window_due v w e = rw e refl

-- the second side: the same ground, but for the window
module _ (g : Ground) (w : Window) where
  -- its step, from the one on the first
  beside : (s : State) (B : List ℕ) (x : Ended) → step_of g s ≡ x → Twins g.window s.arena w B
      → SameStep g.window w x (step_of (with_window w g) (with_arena B s))
  beside s B x d t = subst (λ (e : Ended). SameStep g.window w e (step_of (with_window w g) (with_arena B s))) d (same_step g w s B t)

  -- its run, beside a run r of budget n from s
  abbrev SameRunFrom : ℕ → State → Went → Type 0
  SameRunFrom n s r = (B : List ℕ) → Twins g.window s.arena w B → SameRun g.window w r (run_of (with_window w g) n (with_arena B s))

  same_run : (n : ℕ) (s : State) → SameRunFrom n s (run_of g n s)
  same_run = of_run g SameRunFrom (λ s B t. rw (run_none (with_window w g) 0 (with_arena B s) refl) (B, refl, t)) raises completes
    where
      raises : (n : ℕ) (s : State) (f : Fault) → step_of g s ≡ raised f s → SameRunFrom (suc n) s (stopped (Stop.Raised f) s)
      raises n s f d B t =
          let (B₁, e, t₁) = beside s B (raised f s) d t in
          rw (run_raised (with_window w g) n (with_arena B s) f (with_arena B₁ s) e) (B₁, refl, t₁)

      completes : (n : ℕ) (s u : State) (r : Went) → step_of g s ≡ done u → SameRunFrom n u r → SameRunFrom (suc n) s (counted 1 r)
      completes n s u r d rest B t =
          let (B₁, e, t₁) = beside s B (done u) d t in
          let (B₂, q, t₂) = rest B₁ t₁ in
          rw (run_done (with_window w g) n (with_arena B s) (with_arena B₁ u) e) (B₂, ap (counted 1) q, t₂)

  module _ (s : Session) (budget : ℕ) (A B : List ℕ) (t : Twins g.window A w B) where
    pub same_ran : Same g.window w (ran_of g s budget A) (ran_of (with_window w g) s budget B)
    unfolding ran_of
    same_ran = let (C, q, u) = same_run budget (state_of s A) B t in rw q (refl, u)

    -- the tests come to the same: test 3 passes in both, and no other reads the arena or the offset
    same_verdict : verdict_of (tests_of g s budget A) ≡ verdict_of (tests_of (with_window w g) s budget B)
    same_verdict = rw (same_window_due g.window w t.lengths, placed g.window A t.fits_a, placed w B t.fits_b) refl

    pub same_call : Same g.window w (host_run_of g s budget A) (host_run_of (with_window w g) s budget B)
    unfolding host_run_of
    same_call = rw same_verdict (go (verdict_of (tests_of (with_window w g) s budget B)))
      where
        go : (x : Result (Unit {0}) Refusal) → Same g.window w (judged x s A (ran_of g s budget A)) (judged x s B (ran_of (with_window w g) s budget B))
        go (Ok tt) = same_ran
        go (Err r) = (refl, t)

-- ---- the statements

pub alike : (v w : Window) (A B : List ℕ) (x y : Reply × List ℕ) → Same v w x y
    → OutsideUnchanged v A x.1 → OutsideUnchanged w B y.1 → Alike v w (entry A x) (entry B y)
alike v w A B x y s p q =
    record {
      outcome = ap (λ (r : Reply). r.outcome) s.0;
      steps = ap (λ (r : Reply). r.steps) s.0;
      session = ap (λ (r : Reply). r.session) s.0;
      window = same_bytes v x.1 w y.1 s.1;
      outside_a = p;
      outside_b = q;
    }

pub run_isolated : RunIsolated
unfolding ran_of
run_isolated g s budget v A w B same =
    alike v w A B _ _ (same_ran (with_window v g) w s budget A B (twins v A w B same))
    (outside_run (with_window v g) budget (state_of s A)) (outside_run (with_window w g) budget (state_of s B))

pub call_isolated : CallIsolated
call_isolated g s budget v A w B same =
    alike v w A B _ _ (same_call (with_window v g) w s budget A B (twins v A w B same))
    (outside_call (with_window v g) s budget A) (outside_call (with_window w g) s budget B)
