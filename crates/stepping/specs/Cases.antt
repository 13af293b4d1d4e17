-- Worked steps: each row is one word at 0x10000 with r5, r6 and what the step must come to. The window has 16 bytes and starts at the
-- odd offset 3 of an arena of 24 bytes. All rows stand under one theorem, whose proof is "compute both sides".
use Rattle.std.specs.Prelude.{ℕ, ◌≡◌, refl, List, [], ◌∷◌, map, set, replicate}
use Rattle.place.specs.Place.{locate_of, fetch_place_of}
use Rattle.byte_order.specs.Bytes.{get_le, put_le, bytes_le}
use Rattle.alu.specs.Alu.{alu_of}
use Rattle.alu.specs.Immediate.{immediate_of}
use Rattle.opcode.specs.Families.{table}
use Rattle.opcode.specs.Decode.{decode_of}
use Rattle.registers.specs.Registers.{reg, written}
use Rattle.fault.specs.declared.Fault.{Fault}
use Rattle.fault.specs.declared.Fault.TheVariants.{Adem, Ale, Bce, Syscall, Break, Ine}
use Rattle.memory.specs.Memory.{loaded_of, stored_of}
use Rattle.effect.specs.Effect.{effect_of}
use Rattle.apply.specs.Machine.{State, Ended, ground_on, state, done, raised}
use Rattle.apply.specs.Apply.{access_of, apply_of}
use Rattle.cpu.specs.Step.{fetch_of, step_of}

abbrev arena : List ℕ
arena = 0xe0 ∷ 0xe1 ∷ 0xe2 ∷ 0 ∷ 1 ∷ 2 ∷ 3 ∷ 4 ∷ 5 ∷ 6 ∷ 7 ∷ 8 ∷ 9 ∷ 10 ∷ 11 ∷ 12 ∷ 13 ∷ 14 ∷ 0x8f ∷ 0xf3 ∷ 0xf4 ∷ 0xf5 ∷ 0xf6 ∷ 0xf7 ∷ []

-- r5 and r6 are what a row says, all others are 0
abbrev registers : ℕ → ℕ → List ℕ
registers r5 r6 = set (set (replicate 32 0) 5 r5) 6 r6

-- before the step at 0x10000
abbrev before : ℕ → ℕ → State
before r5 r6 = state (registers r5 r6) (record { 0 = 0x10000 }) arena

pub record Case : Type 0 where
  pub word : ℕ
  pub r5 : ℕ
  pub r6 : ℕ
  pub out : Ended

abbrev run : Case → Ended
run c = step_of (ground_on (bytes_le 4 c.word) (record { start = record { 0 = 3 }; len = 16 })) (before c.r5 c.r6)

-- the fault, and all as it was
abbrev raises : ℕ → ℕ → ℕ → Fault → Case
raises word r5 r6 f = record { word = word; r5 = r5; r6 = r6; out = raised f (before r5 r6) }

-- the registers, the pc and the arena afterwards
abbrev ends : ℕ → ℕ → ℕ → List ℕ → ℕ → List ℕ → Case
ends word r5 r6 gr pc after = record { word = word; r5 = r5; r6 = r6; out = done (state gr (record { 0 = pc }) after) }

abbrev goes : ℕ → ℕ → ℕ → ℕ → Case
goes word r5 r6 pc = ends word r5 r6 (registers r5 r6) pc arena

abbrev jumps : ℕ → ℕ → ℕ → ℕ → ℕ → ℕ → Case
jumps word r5 r6 i v pc = ends word r5 r6 (set (registers r5 r6) i v) pc arena

abbrev writes : ℕ → ℕ → ℕ → ℕ → ℕ → Case
writes word r5 r6 i v = jumps word r5 r6 i v 0x10004

abbrev stores : ℕ → ℕ → ℕ → List ℕ → Case
stores word r5 r6 after = ends word r5 r6 (registers r5 r6) 0x10004 after

abbrev pub cases : List Case
cases =
    writes 0x001018a4 0x7fffffff 1 4 0xffffffff80000000  -- add.w r4, r5, r6
    ∷ goes 0x02c004a0 7 0 0x10004  -- addi.d r0, r5, 1: dropped
    ∷ writes 0x28c000a4 0x40000008 0 4 0x8f0e0d0c0b0a0908  -- ld.d r4, r5, 0
    ∷ raises 0x28c000a4 0x40000009 0 (Ale (record { 0 = 0x40000009 }))  -- its last byte is outside too: ALE comes first
    ∷ raises 0x28c000a4 0x40000010 0 (Adem (record { 0 = 0x40000010 }))  -- in the arena, not in the window
    ∷ raises 0x28c000a4 0x3ffffff8 0 (Adem (record { 0 = 0x3ffffff8 }))  -- ends where the window begins
    ∷ raises 0x28c000a4 0x10000 0 (Adem (record { 0 = 0x10000 }))  -- where the code is
    ∷ raises 0x28c000a0 0x40000010 0 (Adem (record { 0 = 0x40000010 }))  -- ld.d r0, r5, 0: the check still happens
    ∷ writes 0x24fffca4 0x40000010 0 4 0xffffffff8f0e0d0c  -- ldptr.w r4, r5, -4
    ∷ writes 0x382018a4 0xffffffffffffffff 0x40000010 4 0x8f  -- ldx.bu r4, r5, r6
    ∷ stores 0x29003ca6 0x40000000 0x1234 (set arena 18 0x34)  -- st.b r6, r5, 15: the window's last byte
    ∷ raises 0x290040a6 0x40000000 0x1234 (Adem (record { 0 = 0x40000010 }))  -- st.b r6, r5, 16: the byte after it
    ∷ goes 0x2ac000a0 0x123456789 0 0x10004  -- preld 0, r5, 0: no address is checked
    ∷ goes 0x580008a6 7 7 0x10008  -- beq r5, r6, 8
    ∷ goes 0x600008a6 1 0xffffffffffffffff 0x10004  -- blt r5, r6, 8: signed, not taken
    ∷ jumps 0x57ffffff 0 0 1 0x10004 0xfffc  -- bl -4
    ∷ jumps 0x4c0000a5 0x10010 0 5 0x10004 0x10010  -- jirl r5, r5, 0: rj is read first
    ∷ jumps 0x4c0000a0 0x10010 0 5 0x10010 0x10010  -- jirl r0, r5, 0: r0 stays 0, r5 is as it was
    ∷ goes 0x000118a0 0xffffffffffffffff 1 0x10004  -- asrtle.d r5, r6
    ∷ raises 0x000118a0 1 0xffffffffffffffff Bce  -- signed: 1 is more than -1
    ∷ writes 0x00006ca4 1 0 4 0x2f2f2  -- cpucfg r4, r5
    ∷ writes 0x00006ca4 0x100000001 0 4 0  -- all 64 bits of rj
    ∷ raises 0x002b0007 0 0 (Syscall 7)  -- syscall 7
    ∷ raises 0x002a0005 0 0 (Break 5)  -- break 5
    ∷ raises 0x38600420 0 0 (Ine 0x38600420)  -- amswap.w: not built
    ∷ []

pub worked : map run cases ≡ map (λ (c : Case). c.out) cases
unfolding step_of fetch_of fetch_place_of access_of locate_of apply_of effect_of decode_of table get_le put_le reg written loaded_of stored_of alu_of immediate_of bytes_le
worked = refl
