-- A step in two arenas with equal windows: it ends alike, and the windows stay equal.
use mathlib.Core.Path.{◌≡◌, refl, sym, ap, ◌∙◌}
use mathlib.Core.Bool.{Bool, true, false}
use mathlib.Core.List.{List}
use Prim.Native.Nat.{ℕ, ◌+◌, ◌-◌, ◌%◌, ◌≤◌, ◌<◌}
use native.Mathlib.Nat.{add_assoc}
use native.Mathlib.Omega.{arith}
use lib.Dec.{eqb, leb}
use borrow.Author.Tests.{leb-true, leb-false}
use lib.ListN.{get_or}
use Rattle.std.specs.Prelude.{Option, Some, None, Ok, Err}
use Rattle.place.specs.declared.GuestAddr.{GuestAddr}
use Rattle.place.specs.declared.Width.{Width}
use Rattle.place.specs.declared.Window.{Window}
use Rattle.place.specs.Place.{window_base, bytes_of, within_of, locate_of}
use Rattle.place.proofs.Reach.{within_true}
use Rattle.byte_order.specs.Bytes.{put_le}
use Rattle.byte_order.proofs.Numbers.{length_put, put_below, put_above, put_ext, get_ext}
use Rattle.isa.specs.declared.Instruction.{Instruction}
use Rattle.isa.specs.declared.Load.{Load}
use Rattle.opcode.specs.Decode.{decode_of}
use Rattle.fault.specs.declared.Fault.{Fault}
use Rattle.memory.specs.Memory.{load_width_of, extended_of, loaded_of, stored_of}
use Rattle.effect.specs.declared.Effect.{Effect}
use Rattle.effect.specs.Effect.{effect_of}
use Rattle.apply.specs.Machine.{Ground, State, with_window, with_arena}
use Rattle.apply.specs.Apply.{access_of, load_of, store_of, apply_of}
use Rattle.cpu.specs.Step.{fetch_of, step_decoded, step_fetched, step_of}
use Rattle.isolation.proofs.Twins.{Twins, SameStep}

module _ (v w : Window) (same : v.len ≡ w.len) where
  -- an access in two windows of one length: denied alike, or let through to the same place in each
  pub data Both (a : GuestAddr) (k : Width) : Type 0 where
    denied : (f : Fault) → access_of v a k ≡ Err f → access_of w a k ≡ Err f → Both a k
    reached : (d : ℕ) → d + bytes_of k ≤ v.len → access_of v a k ≡ Ok (record { 0 = v.start.0 + d })
        → access_of w a k ≡ Ok (record { 0 = w.start.0 + d }) → Both a k

  pub both : (a : GuestAddr) (k : Width) → Both a k
  unfolding access_of locate_of
  both a k = go (eqb (a.0 % bytes_of k) 0) (within_of window_base v.len a.0 (bytes_of k)) refl refl
    where
      in_w : {t : Bool} → within_of window_base v.len a.0 (bytes_of k) ≡ t → within_of window_base w.len a.0 (bytes_of k) ≡ t
      in_w q = ap (λ (n : ℕ). within_of window_base n a.0 (bytes_of k)) (sym same) ∙ q

      go : (s t : Bool) → eqb (a.0 % bytes_of k) 0 ≡ s → within_of window_base v.len a.0 (bytes_of k) ≡ t → Both a k
      go false t p q = denied (Fault.Ale a) (rw p refl) (rw p refl)
      go true false p q = denied (Fault.Adem a) (rw (p, q) refl) (rw (p, in_w q) refl)
      go true true p q =
          let i = within_true window_base v.len a.0 (bytes_of k) q in
          reached (a.0 - window_base) (omega arith) (rw (p, q) refl) (rw (p, in_w q) refl)

module _ (v w : Window) where
  -- what is loaded is the same
  loads : (A B : List ℕ) → Twins v A w B → (kind : Load) (d : ℕ) → d + bytes_of (load_width_of kind) ≤ v.len
      → loaded_of kind (record { 0 = v.start.0 + d }) A ≡ loaded_of kind (record { 0 = w.start.0 + d }) B
  unfolding loaded_of
  loads A B t kind d h =
      ap (extended_of kind)
      (get_ext (bytes_of (load_width_of kind)) (v.start.0 + d) (w.start.0 + d) A B (λ k l. rw (add_assoc, add_assoc) (t.byte (d + k) (omega arith))))

  -- what is stored is the same
  stores : (A B : List ℕ) → Twins v A w B → (k : Width) (value d : ℕ) → d + bytes_of k ≤ v.len
      → Twins v (stored_of k (record { 0 = v.start.0 + d }) value A) w (stored_of k (record { 0 = w.start.0 + d }) value B)
  unfolding stored_of
  stores A B t k value d h =
      record {
        fits_a = rw (length_put (bytes_of k) (v.start.0 + d) value A) t.fits_a;
        fits_b = rw (length_put (bytes_of k) (w.start.0 + d) value B) t.fits_b;
        lengths = t.lengths;
        byte = λ i l. at i l (leb d i) (leb (d + bytes_of k) i) refl refl;
      }
    where
      at : (i : ℕ) → i < v.len → (p q : Bool) → leb d i ≡ p → leb (d + bytes_of k) i ≡ q
          → get_or (put_le (bytes_of k) (v.start.0 + d) value A) (v.start.0 + i) 0 ≡ get_or (put_le (bytes_of k) (w.start.0 + d) value B) (w.start.0 + i) 0
      at i l false q e f =
          let m = leb-false d i e in
          put_below (bytes_of k) (v.start.0 + d) value A (v.start.0 + i) (omega arith) ∙ t.byte i l
          ∙ sym (put_below (bytes_of k) (w.start.0 + d) value B (w.start.0 + i) (omega arith))
      at i l true true e f =
          let m = leb-true (d + bytes_of k) i f in
          put_above (bytes_of k) (v.start.0 + d) value A (v.start.0 + i) (omega arith) ∙ t.byte i l
          ∙ sym (put_above (bytes_of k) (w.start.0 + d) value B (w.start.0 + i) (omega arith))
      at i l true false e f =
          let m = leb-true d i e in
          let n = leb-false (d + bytes_of k) i f in
          let x : v.start.0 + i ≡ v.start.0 + d + (i - d) = omega arith in
          let y : w.start.0 + i ≡ w.start.0 + d + (i - d) = omega arith in
          let fa = t.fits_a in
          let fb = t.fits_b in
          let s = t.lengths in
          rw (x, y) (put_ext (bytes_of k) (v.start.0 + d) (w.start.0 + d) value A B (omega arith) (omega arith) (i - d) (omega arith))

  module _ (s : State) (B : List ℕ) (t : Twins v s.arena w B) where
    of_effect : (e : Effect) → SameStep v w (apply_of v e s) (apply_of w e (with_arena B s))
    unfolding apply_of
    of_effect (Effect.Write rd value to) = (B, refl, t)
    of_effect (Effect.Jump to) = (B, refl, t)
    of_effect (Effect.Load kind rd a) = load (both v w t.lengths a (load_width_of kind))
      where
        load : Both v w t.lengths a (load_width_of kind)
            → SameStep v w (load_of (access_of v a (load_width_of kind)) kind rd s) (load_of (access_of w a (load_width_of kind)) kind rd (with_arena B s))
        load (denied f p q) = rw (p, q) (B, refl, t)
        load (reached d h p q) = rw (p, q) (B, rw (loads s.arena B t kind d h) refl, t)
    of_effect (Effect.Store k value a) = store (both v w t.lengths a k)
      where
        store : Both v w t.lengths a k → SameStep v w (store_of (access_of v a k) k value s) (store_of (access_of w a k) k value (with_arena B s))
        store (denied f p q) = rw (p, q) (B, refl, t)
        store (reached d h p q) = rw (p, q) (_, refl, stores s.arena B t k value d h)
    of_effect (Effect.Raise f) = (B, refl, t)

-- the second side: the same ground and the same state, but for the window and the arena
module _ (g : Ground) (w : Window) (s : State) (B : List ℕ) (t : Twins g.window s.arena w B) where
  of_decoded : (d : Option Instruction) (word : ℕ) → SameStep g.window w (step_decoded d word g s) (step_decoded d word (with_window w g) (with_arena B s))
  of_decoded (Some i) word = of_effect g.window w s B t (effect_of i s.regs s.pc)
  of_decoded None word = (B, refl, t)

  of_fetched : (x : Option ℕ) → SameStep g.window w (step_fetched x g s) (step_fetched x (with_window w g) (with_arena B s))
  of_fetched (Some word) = of_decoded (decode_of word) word
  of_fetched None = (B, refl, t)

  pub same_step : SameStep g.window w (step_of g s) (step_of (with_window w g) (with_arena B s))
  unfolding step_of
  same_step = of_fetched (fetch_of g.code s.pc)
