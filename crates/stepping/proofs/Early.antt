-- What is raised before an instruction executes: INE where there is no such instruction, ADEF where there is no word, and neither
-- by an instruction that exists.
use mathlib.Core.Path.{◌≡◌, refl, sym, ap, ◌∙◌}
use Rattle.std.specs.Prelude.{Option, Some, None, ok_or, Result, Ok, Err}
use mathlib.Core.Bool.{Bool, true, false, cond, ◌&&◌}
use mathlib.Core.List.{List}
use Prim.Native.Nat.{ℕ, ◌+◌, ◌-◌, ◌%◌}
use lib.Dec.{eqb}
use lib.ListN.{length}
use borrow.Author.Tests.{eqb-true, eq-eqb, le-leb}
use Rattle.place.specs.declared.ArenaOffset.{ArenaOffset}
use Rattle.place.specs.declared.GuestAddr.{GuestAddr}
use Rattle.place.specs.declared.Width.{Width}
use Rattle.place.specs.declared.Window.{Window}
use Rattle.place.specs.Place.{code_base, bytes_of, within_of, locate_of, fetch_place_of}
use Rattle.place.proofs.Reach.{within_true}
use Rattle.isa.specs.declared.Instruction.{Instruction}
use Rattle.isa.specs.declared.Jump.TheVariants.{B, Bl, Jirl}
use Rattle.isa.specs.declared.Pointer.TheVariants.{LdptrW, LdptrD, StptrW, StptrD}
use Rattle.isa.specs.declared.Trap.TheVariants.{Syscall, Break}
use Rattle.opcode.specs.Decode.{decode_of}
use Rattle.registers.specs.Registers.{reg}
use Rattle.fault.specs.declared.Fault.{Fault}
use Rattle.memory.specs.Memory.{load_width_of}
use Rattle.control.specs.Control.{passes_of}
use Rattle.operate.specs.Operate.{next_of}
use Rattle.effect.specs.declared.Effect.{Effect}
use Rattle.effect.specs.Effect.{effect_of}
use Rattle.apply.specs.Machine.{End, State, Ended}
use Rattle.apply.specs.Apply.{access_of, load_of, store_of, apply_of}
use Rattle.cpu.specs.Step.{fetch_of, step_of, fetched_at, step_decoded, step_fetched}
use Rattle.stepping.specs.Stepping.{InCode, AdefRaised, AdefOnly, word_at, IneRaised, IneOnly, early, ExistingIsLate}

-- inside code the word is fetched
pub fetched : (code : List ℕ) (pc : GuestAddr) → InCode code pc → fetch_of code pc ≡ Some (word_at code pc)
unfolding fetch_of fetch_place_of
fetched code pc i =
    rw (eq-eqb (pc.0 % 4) 0 i.0, le-leb code_base pc.0 i.1, le-leb (pc.0 + 4) (code_base + length code) i.2) refl

-- elsewhere no word is
unfetched : (code : List ℕ) (pc : GuestAddr) → (InCode code pc → ⊥) → fetch_of code pc ≡ None
unfolding fetch_of fetch_place_of
unfetched code pc out = go (eqb (pc.0 % 4) 0) (within_of code_base (length code) pc.0 4) refl refl
  where
    go : (s t : Bool) → eqb (pc.0 % 4) 0 ≡ s → within_of code_base (length code) pc.0 4 ≡ t
        → fetched_at (cond (s && t) (Some (record { 0 = pc.0 - code_base })) None) code ≡ None
    go true true p q =
        let i = within_true code_base (length code) pc.0 4 q in
        absurd (out (eqb-true (pc.0 % 4) 0 p, i.0, i.1))
    go true false p q = refl
    go false t p q = refl

pub adef_raised : AdefRaised
unfolding step_of
adef_raised g s out = rw (unfetched g.code s.pc out) refl

pub ine_raised : IneRaised
unfolding step_of
ine_raised g s i u = rw (fetched g.code s.pc i, u) refl

-- what an effect, an access and an end raise is not early
abbrev early_effect : Effect → Bool
early_effect (Effect.Raise f) = early f
early_effect (Effect.Write rd v to) = false
early_effect (Effect.Jump to) = false
early_effect (Effect.Load kind rd a) = false
early_effect (Effect.Store k v a) = false

abbrev early_access : Result ArenaOffset Fault → Bool
early_access (Ok o) = false
early_access (Err f) = early f

abbrev early_end : End → Bool
early_end (Ok u) = false
early_end (Err f) = early f

effect_late : (i : Instruction) (gr : List ℕ) (pc : GuestAddr) → early_effect (effect_of i gr pc) ≡ false
unfolding effect_of
effect_late (Instruction.Alu op o) gr pc = refl
effect_late (Instruction.Product op o) gr pc = refl
effect_late (Instruction.Division op o) gr pc = refl
effect_late (Instruction.Shift op o) gr pc = refl
effect_late (Instruction.ShiftImmediate op o) gr pc = refl
effect_late (Instruction.Immediate op o) gr pc = refl
effect_late (Instruction.Upper op o) gr pc = refl
effect_late (Instruction.Alsl op o) gr pc = refl
effect_late (Instruction.Bytepick op o) gr pc = refl
effect_late (Instruction.Unary op o) gr pc = refl
effect_late (Instruction.Field op o) gr pc = refl
effect_late (Instruction.Branch op o) gr pc = refl
effect_late (Instruction.ZeroBranch op o) gr pc = refl
effect_late (Instruction.Jump B o) gr pc = refl
effect_late (Instruction.Jump Bl o) gr pc = refl
effect_late (Instruction.Jump Jirl o) gr pc = refl
effect_late (Instruction.Load op o) gr pc = refl
effect_late (Instruction.LoadIndexed op o) gr pc = refl
effect_late (Instruction.Store op o) gr pc = refl
effect_late (Instruction.StoreIndexed op o) gr pc = refl
effect_late (Instruction.Pointer LdptrW o) gr pc = refl
effect_late (Instruction.Pointer LdptrD o) gr pc = refl
effect_late (Instruction.Pointer StptrW o) gr pc = refl
effect_late (Instruction.Pointer StptrD o) gr pc = refl
effect_late (Instruction.Preload op o) gr pc = refl
effect_late (Instruction.Barrier op o) gr pc = refl
effect_late (Instruction.Trap Syscall o) gr pc = refl
effect_late (Instruction.Trap Break o) gr pc = refl
effect_late (Instruction.Assert op o) gr pc = go (passes_of op (reg gr o.rj) (reg gr o.rk))
  where
    go : (t : Bool) → early_effect (cond t (Effect.Jump (next_of pc)) (Effect.Raise Fault.Bce)) ≡ false
    go true = refl
    go false = refl
effect_late (Instruction.Config op o) gr pc = refl

access_late : (w : Window) (a : GuestAddr) (k : Width) → early_access (access_of w a k) ≡ false
unfolding access_of
access_late w a k = go (eqb (a.0 % bytes_of k) 0) (locate_of w a k)
  where
    go : (t : Bool) (l : Option ArenaOffset) → early_access (cond t (ok_or l (Fault.Adem a)) (Err (Fault.Ale a))) ≡ false
    go true (Some o) = refl
    go true None = refl
    go false l = refl

apply_late : (w : Window) (e : Effect) (s : State) → early_effect e ≡ false → early_end (apply_of w e s).end ≡ false
unfolding apply_of
apply_late w (Effect.Write rd v to) s l = refl
apply_late w (Effect.Jump to) s l = refl
apply_late w (Effect.Load kind rd a) s l = go (access_of w a (load_width_of kind)) (access_late w a (load_width_of kind))
  where
    go : (x : Result ArenaOffset Fault) → early_access x ≡ false → early_end (load_of x kind rd s).end ≡ false
    go (Ok o) h = refl
    go (Err f) h = h
apply_late w (Effect.Store k v a) s l = go (access_of w a k) (access_late w a k)
  where
    go : (x : Result ArenaOffset Fault) → early_access x ≡ false → early_end (store_of x k v s).end ≡ false
    go (Ok o) h = refl
    go (Err f) h = h
apply_late w (Effect.Raise f) s l = l

pub existing_is_late : ExistingIsLate
unfolding step_of
existing_is_late g s i f h k e =
    let x = effect_of i s.regs s.pc in
    let q : step_of g s ≡ apply_of g.window x s = rw (step_of, fetched g.code s.pc h, k) refl in
    let r : (apply_of g.window x s).end ≡ Err f = ap (λ (y : Ended). y.end) (sym q) ∙ e in
    ap early_end (sym r) ∙ apply_late g.window x s (effect_late i s.regs s.pc)

pub ine_only : IneOnly
ine_only g s i word e = go (decode_of here) refl
  where
    here : ℕ
    here = word_at g.code s.pc

    go : (d : Option Instruction) → decode_of here ≡ d → (decode_of here ≡ None) × (word ≡ here)
    go (Some n) k =
        let h = existing_is_late g s n (Fault.Ine word) i k e in
        absurd (cc)
    go None k =
        let q : Err (Fault.Ine here) ≡ Err (Fault.Ine word) = sym (ine_raised g s i k) ∙ e in
        let h : word ≡ here = cc in
        (k, h)

pub adef_only : AdefOnly
unfolding step_of
adef_only g s a e = go (fetch_of g.code s.pc) refl e
  where
    done_late : (word : ℕ) (d : Option Instruction) → (step_decoded d word g s).end ≡ Err (Fault.Adef a) → ⊥
    done_late word (Some i) q =
        let l = apply_late g.window (effect_of i s.regs s.pc) s (effect_late i s.regs s.pc) in
        let h : early_end (Err (Fault.Adef a)) ≡ false = ap early_end (sym q) ∙ l in
        absurd (cc)
    done_late word None q = absurd (cc)

    go : (x : Option ℕ) → fetch_of g.code s.pc ≡ x → (step_fetched x g s).end ≡ Err (Fault.Adef a)
        → (InCode g.code s.pc → ⊥) × (a ≡ s.pc)
    go (Some word) p q = absurd (done_late word (decode_of word) q)
    go None p q =
        let h : a ≡ s.pc = cc in
        ((λ (i : InCode g.code s.pc). let f = fetched g.code s.pc i in absurd (cc)), h)
