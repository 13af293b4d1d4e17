-- Isolation along histories: an own act comes to the same on both sides, and another session's run leaves the window as it was.
use mathlib.Core.Path.{◌≡◌, refl, sym, ap, subst, ◌∙◌}
use mathlib.Core.List.{List, [], ◌∷◌}
use Prim.Native.Nat.{ℕ, ◌+◌}
use native.Mathlib.Omega.{arith}
use Rattle.place.specs.declared.Window.{Window}
use Rattle.session.specs.declared.Session.{Session}
use Rattle.session.specs.declared.Reply.{Reply}
use Rattle.isolation.specs.Windows.{OutsideUnchanged}
use Rattle.isolation.specs.Histories.{Act, run, answer, Foreign, Event, own, other, acted, after_other, entries, own_acts, ShareNoByte, OthersApart, AllAlike, HistoriesIsolated}
use Rattle.isolation.proofs.Twins.{Twins, Same, twins, turned}
use Rattle.isolation.proofs.Isolated.{unchanged, outside_call, same_call, alike}

-- an own act changes nothing outside the window
outside_act : (a : Act) (w : Window) (s : Session) (arena : List ℕ) → OutsideUnchanged w arena (acted a w s arena).1
outside_act (run code budget) w s arena = outside_call _ s budget arena
outside_act (answer code value) w s arena = unchanged w arena

-- another session's run leaves the window as it was
other_run : (v w : Window) (f : Foreign) (A B : List ℕ) → ShareNoByte v f.own_ground.window → Twins v A w B → Twins v (after_other f A) w B
other_run v w f A B apart t =
    let o = outside_call f.own_ground f.session f.budget A in
    record {
      fits_a = rw o.as_long t.fits_a;
      fits_b = t.fits_b;
      lengths = t.lengths;
      byte = λ k l. o.bytes (v.start.0 + k) (apart (v.start.0 + k) (omega arith, omega arith)) ∙ t.byte k l;
    }

module _ (v w : Window) where
  same_act : (a : Act) (s : Session) (A B : List ℕ) → Twins v A w B → Same v w (acted a v s A) (acted a w s B)
  same_act (run code budget) s A B t = same_call _ w s budget A B t
  same_act (answer code value) s A B t = (refl, t)

  -- on the second side
  other_b : (f : Foreign) (A B : List ℕ) → ShareNoByte w f.own_ground.window → Twins v A w B → Twins v A w (after_other f B)
  other_b f A B apart t = turned w (after_other f B) v A (other_run w v f B A apart (turned v A w B t))

  -- what is to be shown of two histories
  abbrev Goes : List Event → List Event → Type 0
  Goes g h = (s : Session) (A B : List ℕ) → Twins v A w B → OthersApart v g → OthersApart w h → own_acts g ≡ own_acts h → AllAlike v w (entries v g s A) (entries w h s B)

  no_acts : (h : List Event) → Goes [] h
  unfolding entries own_acts OthersApart AllAlike
  no_acts [] s A B t p q e = tt
  no_acts (own b ∷ h) s A B t p q e = let z : ◌≡◌ {A = ℕ} 0 1 = cc in absurd (omega arith)
  no_acts (other f ∷ h) s A B t p q e = no_acts h s A (after_other f B) (other_b f A B q.0 t) p q.1 e

  -- an own act stands next on the first side: the second comes to it after others' runs
  next_act : (a : Act) (g : List Event) → ((h : List Event) → Goes g h) → (h : List Event) → Goes (own a ∷ g) h
  unfolding entries own_acts OthersApart AllAlike
  next_act a g rest [] s A B t p q e = let z : ◌≡◌ {A = ℕ} 0 1 = cc in absurd (omega arith)
  next_act a g rest (other f ∷ h) s A B t p q e = next_act a g rest h s A (after_other f B) (other_b f A B q.0 t) p q.1 e
  next_act a g rest (own b ∷ h) s A B t p q e =
      let ab : a ≡ b = cc in
      let later : own_acts g ≡ own_acts h = cc in
      let x = same_act a s A B t in
      let both : Same v w (acted a v s A) (acted b w s B) = rw (← ab) x in
      let r = (acted b w s B).0.session in
      let i = rest h r (acted a v s A).1 (acted b w s B).1 both.1 p q later in (
        alike v w A B (acted a v s A) (acted b w s B) both (outside_act a v s A) (outside_act b w s B),
        subst (λ (y : Session). AllAlike v w (entries v g y (acted a v s A).1) (entries w h r (acted b w s B).1)) (sym (ap (λ (y : Reply). y.session) both.0)) i,
      )

  along : (g h : List Event) → Goes g h
  unfolding entries own_acts OthersApart AllAlike
  along [] h = no_acts h
  along (own a ∷ g) h = next_act a g (along g) h
  along (other f ∷ g) h = λ s A B t p q e. along g h s (after_other f A) B (other_run v w f A B p.0 t) p.1 q e

pub histories_isolated : HistoriesIsolated
histories_isolated v A w B g h s same = along v w g h s A B (twins v A w B same)
