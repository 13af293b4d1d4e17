-- The ten starred bench cases of 01, as whole calls of the definition that `host::run` promises, refusals included. All rows stand under
-- one theorem, whose proof is "compute both sides": a definition that always refuses, leaves the session as it came, gives a constant
-- stop, pretends steps or makes up the count is refused here.
-- The window starts at the odd offset 7 of an arena of 40 bytes, with other bytes on both sides: an access that is compared with the
-- arena's end fails cases 8 and 10.
use Rattle.std.specs.Prelude.{ℕ, ◌+◌, ◌≡◌, refl, List, [], ◌∷◌, map, Some}
use Rattle.place.specs.Place.{locate_of, fetch_place_of}
use Rattle.byte_order.specs.Bytes.{get_le, bytes_le}
use Rattle.alu.specs.Alu.{alu_of}
use Rattle.alu.specs.Alsl.{alsl_of}
use Rattle.alu.specs.Immediate.{immediate_of}
use Rattle.alu.specs.Upper.{upper_of}
use Rattle.quotient.specs.Quotient.{division_of}
use Rattle.fields.specs.Bytepick.{bytepick_of}
use Rattle.opcode.specs.Families.{table}
use Rattle.opcode.specs.Decode.{decode_of}
use Rattle.registers.specs.Registers.{reg, written}
use Rattle.memory.specs.Memory.{loaded_of}
use Rattle.effect.specs.Effect.{effect_of}
use Rattle.apply.specs.Machine.{ground_on}
use Rattle.apply.specs.Apply.{access_of, apply_of}
use Rattle.cpu.specs.Step.{fetch_of, step_of}
use Rattle.fault.specs.Fault.{told_of}
use Rattle.session.specs.declared.Session.{Session}
use Rattle.session.specs.declared.Reply.{Reply}
use Rattle.session.specs.declared.Numbers.{Numbers}
use Rattle.session.specs.Session.{note}
use Rattle.session.specs.Numbers.{numbers_of}
use Rattle.session.specs.Registers.{Value, r, registers}
use Rattle.refuse.specs.Refusals.{code_due, window_due, place_due, zero_due, budget_due, total_due}
use Rattle.running.specs.Run.{run_of, ran_of}
use Rattle.running.specs.Call.{host_run_of}

abbrev arena : List ℕ
arena =
    0xe0 ∷ 0xe1 ∷ 0xe2 ∷ 0xe3 ∷ 0xe4 ∷ 0xe5 ∷ 0xe6
    ∷ 0x10 ∷ 0x21 ∷ 0x32 ∷ 0x43 ∷ 0x54 ∷ 0x65 ∷ 0x76 ∷ 0x87 ∷ 0x98 ∷ 0xa9 ∷ 0xba ∷ 0xcb ∷ 0xdc ∷ 0xed ∷ 0xfe ∷ 0x8f
    ∷ 0xf0 ∷ 0xf1 ∷ 0xf2 ∷ 0xf3 ∷ 0xf4 ∷ 0xf5 ∷ 0xf6 ∷ 0xf7 ∷ 0xf8 ∷ 0xf9 ∷ 0xfa ∷ 0xfb ∷ 0xfc ∷ 0xfd ∷ 0xfe ∷ 0xff ∷ 0xc3 ∷ []

-- a session that has done 1,000 steps, with a note
abbrev session : List Value → ℕ → ℕ → Session
session xs pc steps = record { regs = registers xs; pc = record { 0 = pc }; total = 1000 + steps; note = Some (note 0x123456789abcdef 0x1122334455667788) }

-- what the host sees: the outcome by 01's numbers, the count, the session, the arena's bytes
pub record Seen : Type 0 where
  pub numbers : Numbers
  pub steps : ℕ
  pub after : Session
  pub bytes : List ℕ

abbrev seen : Reply × List ℕ → Seen
seen x = record { numbers = numbers_of x.0.outcome; steps = x.0.steps; after = x.0.session; bytes = x.1 }

pub record Case : Type 0 where
  pub word : ℕ
  pub given : List Value
  pub len : ℕ
  pub budget : ℕ
  pub want : Seen

-- the call: the word at 0x10000, the window at 7
abbrev call : Case → Seen
call c =
    seen
    (host_run_of (ground_on (bytes_le 4 c.word) (record { start = record { 0 = 7 }; len = c.len })) (session c.given 0x10000 0) c.budget arena)

-- word, registers given, window length, budget; Ecode, subcode, carried; count, registers and pc afterwards. No case stores.
abbrev case : ℕ → List Value → ℕ → ℕ → ℕ → ℕ → ℕ → ℕ → List Value → ℕ → Case
case word given len budget ecode subcode carried steps gr pc =
    record {
      word = word;
      given = given;
      len = len;
      budget = budget;
      want =
          record {
            numbers = record { refused = 0; stop = told_of ecode subcode carried };
            steps = steps;
            after = session gr pc steps;
            bytes = arena;
          };
    }

-- one step of a budget of 1, which is then spent
abbrev steps_to : ℕ → List Value → List Value → ℕ → Case
steps_to word given gr pc = case word given 16 1 0 0 0 1 gr pc

-- the stop, and all as it was
abbrev raises : ℕ → List Value → ℕ → ℕ → ℕ → ℕ → Case
raises word given len ecode subcode carried = case word given len 1 ecode subcode carried 0 given 0x10000

abbrev pub cases : List Case
cases =
    -- 1. add.w r4, r5, r6
    steps_to 0x001018a4 (r 5 0x7fffffff ∷ r 6 1 ∷ []) (r 4 0xffffffff80000000 ∷ r 5 0x7fffffff ∷ r 6 1 ∷ []) 0x10004
    -- 2. alsl.w and alsl.wu r4, r5, r6, field 0
    ∷ steps_to 0x000418a4 (r 5 0x40000000 ∷ []) (r 4 0xffffffff80000000 ∷ r 5 0x40000000 ∷ []) 0x10004
    ∷ steps_to 0x000618a4 (r 5 0x40000000 ∷ []) (r 4 0x80000000 ∷ r 5 0x40000000 ∷ []) 0x10004
    -- 3. lu32i.d r4, -1
    ∷ steps_to 0x17ffffe4 (r 4 5 ∷ []) (r 4 0xffffffff00000005 ∷ []) 0x10004
    -- 4. sltui r4, r5, -1
    ∷ steps_to 0x027ffca4 (r 5 5 ∷ []) (r 4 1 ∷ r 5 5 ∷ []) 0x10004
    -- 5. bytepick.d r4, r5, r6, field 1
    ∷ steps_to 0x000c98a4 (r 5 0xaabbccddeeff0011 ∷ r 6 0x1122334455667788 ∷ []) (r 4 0x22334455667788aa ∷ r 5 0xaabbccddeeff0011 ∷ r 6 0x1122334455667788 ∷ []) 0x10004
    -- 6. div.d and mod.d r4, r5, r6: -7 by 2 gives -3 and -1
    ∷ steps_to 0x002218a4 (r 5 0xfffffffffffffff9 ∷ r 6 2 ∷ []) (r 4 0xfffffffffffffffd ∷ r 5 0xfffffffffffffff9 ∷ r 6 2 ∷ []) 0x10004
    ∷ steps_to 0x002298a4 (r 5 0xfffffffffffffff9 ∷ r 6 2 ∷ []) (r 4 0xffffffffffffffff ∷ r 5 0xfffffffffffffff9 ∷ r 6 2 ∷ []) 0x10004
    -- 7. jirl r1, r1, 0
    ∷ steps_to 0x4c000021 (r 1 0x10010 ∷ []) (r 1 0x10004 ∷ []) 0x10010
    -- 8. ld.d r4, r5, 0: loads, ALE, ADEM, ALE
    ∷ steps_to 0x28c000a4 (r 5 0x40000008 ∷ []) (r 4 0x8ffeeddccbbaa998 ∷ r 5 0x40000008 ∷ []) 0x10004
    ∷ raises 0x28c000a4 (r 5 0x40000009 ∷ []) 16 9 0 0x40000009
    ∷ raises 0x28c000a4 (r 5 0x40000010 ∷ []) 16 8 1 0x40000010
    ∷ raises 0x28c000a4 (r 5 0x40000011 ∷ []) 16 9 0 0x40000011
    -- 9. jirl r1, r5, 0 to 0x10002, budget 2: one step, then ADEF
    ∷ case 0x4c0000a1 (r 5 0x10002 ∷ []) 16 2 8 0 0x10002 1 (r 1 0x10004 ∷ r 5 0x10002 ∷ []) 0x10002
    -- 10. st.b r6, r5, 0, window length 0: ADEM
    ∷ raises 0x290000a6 (r 5 0x40000000 ∷ r 6 0x77 ∷ []) 0 8 1 0x40000000
    ∷ []

pub starred : map call cases ≡ map (λ (c : Case). c.want) cases
unfolding host_run_of code_due window_due place_due zero_due budget_due total_due ran_of run_of step_of fetch_of fetch_place_of access_of locate_of apply_of effect_of decode_of table get_le reg written loaded_of alu_of alsl_of immediate_of upper_of division_of bytepick_of bytes_le
starred = refl
