-- One step of the machine, over the whole arena with offsets (01, "Stops"): "Order at each instruction: budget; pc not a multiple of 4
-- or outside code (ADEF); INE; ALE; ADEM or the instruction's own exception." The budget is the run's.
use Rattle.std.specs.Prelude.{ℕ, ◌≡◌, List, length, Option, Some, None}
use Rattle.byte_order.specs.Bytes.{get_le}
use Rattle.place.specs.declared.CodeOffset.{CodeOffset}
use Rattle.place.specs.declared.GuestAddr.{GuestAddr}
use Rattle.place.specs.Place.{fetch_place_of}
use Rattle.isa.specs.declared.Instruction.{Instruction}
use Rattle.opcode.specs.Decode.{decode_of}
use Rattle.fault.specs.declared.Fault.{Fault}
use Rattle.effect.specs.Effect.{effect_of}
use Rattle.apply.specs.declared.Stepped.{Stepped}
use Rattle.apply.specs.Machine.{Ground, State, Ended, raised, stepped_of}
use Rattle.apply.specs.Apply.{apply_of}

-- Fetch: the word at pc
abbrev pub fetched_at : Option CodeOffset → List ℕ → Option ℕ
fetched_at (Some o) code = Some (get_le 4 o.0 code)
fetched_at None code = None

unfoldable pub fetch_of : List ℕ → GuestAddr → Option ℕ
fetch_of code pc = fetched_at (fetch_place_of (length code) pc) code

-- Step: fetch, decode, ask, apply
abbrev pub step_decoded : Option Instruction → ℕ → Ground → State → Ended
step_decoded (Some i) word g s = apply_of g.window (effect_of i s.regs s.pc) s
step_decoded None word g s = raised (Fault.Ine word) s

abbrev pub step_fetched : Option ℕ → Ground → State → Ended
step_fetched (Some word) g s = step_decoded (decode_of word) word g s
step_fetched None g s = raised (Fault.Adef s.pc) s

unfoldable pub step_of : Ground → State → Ended
step_of g s = step_fetched (fetch_of g.code s.pc) g s

-- The promise of `step`: the result and every byte of the arena
abbrev pub Steps : Stepped → List ℕ → Ended → Type 0
Steps r arena e = (r ≡ stepped_of e) × (arena ≡ e.state.arena)
