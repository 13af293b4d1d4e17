-- Apply: what an effect does to registers, pc and arena, over the whole arena with offsets (01, "Stops"): "ALE; ADEM or the instruction's own
-- exception".
use Rattle.std.specs.Prelude.{ℕ, ◌%◌, ◌≡◌, cond, eqb, ok_or, Result, Ok, Err}
use Rattle.place.specs.declared.ArenaOffset.{ArenaOffset}
use Rattle.place.specs.declared.GuestAddr.{GuestAddr}
use Rattle.place.specs.declared.Width.{Width}
use Rattle.place.specs.declared.Window.{Window}
use Rattle.place.specs.Place.{bytes_of, locate_of}
use Rattle.isa.specs.declared.Load.{Load}
use Rattle.registers.specs.Registers.{written}
use Rattle.fault.specs.declared.Fault.{Fault}
use Rattle.memory.specs.Memory.{load_width_of, loaded_of, stored_of}
use Rattle.operate.specs.Operate.{next_of}
use Rattle.effect.specs.declared.Effect.{Effect}
use Rattle.apply.specs.Machine.{End, State, Ended, with_pc, with_regs, with_arena, done, raised}

-- Access: "An access of n bytes needs an address that is a multiple of n and all n bytes in the window." "ALE before ADEM is house."
unfoldable pub access_of : Window → GuestAddr → Width → Result ArenaOffset Fault
access_of w a k = cond (eqb (a.0 % bytes_of k) 0) (ok_or (locate_of w a k) (Fault.Adem a)) (Err (Fault.Ale a))

-- Apply: what an effect does to registers, pc and arena. "A raising instruction changes nothing, pc included"
abbrev pub load_of : Result ArenaOffset Fault → Load → ℕ → State → Ended
load_of (Ok o) kind rd s = done (with_pc (next_of s.pc) (with_regs (written s.regs rd (loaded_of kind o s.arena)) s))
load_of (Err f) kind rd s = raised f s

abbrev pub store_of : Result ArenaOffset Fault → Width → ℕ → State → Ended
store_of (Ok o) width value s = done (with_pc (next_of s.pc) (with_arena (stored_of width o value s.arena) s))
store_of (Err f) width value s = raised f s

unfoldable pub apply_of : Window → Effect → State → Ended
apply_of w (Effect.Write rd value to) s = done (with_pc to (with_regs (written s.regs rd value) s))
apply_of w (Effect.Jump to) s = done (with_pc to s)
apply_of w (Effect.Load kind rd a) s = load_of (access_of w a (load_width_of kind)) kind rd s
apply_of w (Effect.Store width value a) s = store_of (access_of w a width) width value s
apply_of w (Effect.Raise f) s = raised f s

-- The promise of `apply` and of a turn: the next pc or the fault, and what is left. u is the state as they leave it, at the pc that they were given:
-- where it goes on, u at the next pc is the state of the definition; where it raises, u is that state but for the registers
abbrev pub turned_of : End → GuestAddr → Result GuestAddr Fault
turned_of (Ok done) pc = Ok pc
turned_of (Err f) pc = Err f

abbrev pub LeavesState : Result GuestAddr Fault → State → State → Type 0
LeavesState (Ok to) u want = with_pc to u ≡ want
LeavesState (Err f) u want = with_regs want.regs u ≡ want

abbrev pub Meets : Result GuestAddr Fault → State → Ended → Type 0
Meets t u e = (t ≡ turned_of e.end e.state.pc) × LeavesState t u e.state

-- "A raising instruction changes nothing, pc included": of every effect. The proof is in proofs/Unmoved.antt.
abbrev pub RaisingMovesNothing : Type 0
RaisingMovesNothing = (w : Window) (e : Effect) (s : State) (f : Fault) → (apply_of w e s).end ≡ Err f → (apply_of w e s).state ≡ s
