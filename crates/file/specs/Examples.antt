-- 01's sentences on the file, worked out on a file of each form: where the bytes stand, and what reading a damaged file says. Each
-- table is one computed test, in proofs/Examples.antt.
use Rattle.std.specs.Prelude.{ℕ, Bool, true, ◌&&◌, List, [], ◌∷◌, ◌++◌, eqb, take, set, replicate, Option, Some, None}
use Rattle.session.specs.declared.Note.{Note}
use Rattle.session.specs.declared.Session.{Session}
use Rattle.session.specs.Session.{note as note_of}
use Rattle.file.specs.Writing.{file_of}
use Rattle.file.specs.Reading.{host_read_of, number_read, offset_read}

abbrev pub sample : Option Note → Session
sample note = record {
  regs = 0 ∷ 0x11 ∷ (replicate 29 0x22 ++ (0x3300000000000044 ∷ []));
  pc = record { 0 = 0x0807060504030201 };
  total = 0x6600000000000055;
  note = note;
}

-- a file without a note, and one with
abbrev pub plain : List ℕ
plain = file_of (sample None)

abbrev pub noted : List ℕ
noted = file_of (sample (Some (note_of 0x7700000000000066 0x9900000000000088)))

-- the test holds of all
abbrev pub of_all : {A : Type 0} → (A → Bool) → List A → Bool
of_all test [] = true
of_all test (x ∷ xs) = test x && of_all test xs

-- a byte and where it stands
pub record Byte : Type 0 where
  pub at : ℕ
  pub value : ℕ

abbrev pub byte : ℕ → ℕ → Byte
byte at value = record { at = at; value = value }

-- the kinds; the first and the last byte of pc, r1, r31, total and the note's two numbers
abbrev pub places : List Byte
places =
    byte 0 1 ∷ byte 1 0x01 ∷ byte 8 0x08
    ∷ byte 9 2 ∷ byte 10 0x11 ∷ byte 17 0 ∷ byte 250 0x44 ∷ byte 257 0x33
    ∷ byte 258 3 ∷ byte 259 0x55 ∷ byte 266 0x66
    ∷ byte 267 4 ∷ byte 268 0x66 ∷ byte 275 0x77 ∷ byte 276 0x88 ∷ byte 283 0x99
    ∷ byte 284 5
    ∷ []

-- a file, and the number and the offset that reading it returns
pub record Damage : Type 0 where
  pub file : List ℕ
  pub number : ℕ
  pub offset : ℕ

abbrev pub damage : List ℕ → ℕ → ℕ → Damage
damage file number offset = record { file = file; number = number; offset = offset }

abbrev pub damages : List Damage
damages =
    -- none
    damage plain 0 268
    ∷ damage noted 0 285
    -- "the file ends where a kind .. is due": its length; "or part of a body": the kind's offset
    ∷ damage [] 12 0
    ∷ damage (take 8 plain) 12 0
    ∷ damage (take 9 plain) 12 9
    ∷ damage (take 257 plain) 12 9
    ∷ damage (take 258 plain) 12 258
    ∷ damage (take 266 plain) 12 258
    ∷ damage (take 267 plain) 12 267
    ∷ damage (take 268 noted) 12 267
    ∷ damage (take 283 noted) 12 267
    ∷ damage (take 284 noted) 12 284
    ∷ damage (set plain 267 4) 12 267
    -- "a kind byte not allowed at that place": its offset
    ∷ damage (set plain 0 2) 11 0
    ∷ damage (set plain 9 1) 11 9
    ∷ damage (set plain 258 4) 11 258
    ∷ damage (set plain 258 5) 11 258
    ∷ damage (set plain 267 3) 11 267
    ∷ damage (set noted 284 4) 11 284
    -- "bytes after the end mark": "the first extra byte"
    ∷ damage (set noted 267 5) 13 268
    ∷ damage (plain ++ (0 ∷ [])) 13 268
    ∷ damage (noted ++ (5 ∷ 5 ∷ [])) 13 285
    -- "from left to right"
    ∷ damage (set (set plain 0 2) 9 1) 11 0
    ∷ damage (take 100 (set plain 9 1)) 11 9
    ∷ damage (set plain 267 3 ++ (0 ∷ [])) 11 267
    ∷ []

abbrev pub told : Damage → Bool
told d = eqb (number_read (host_read_of d.file)) d.number && eqb (offset_read (host_read_of d.file)) d.offset
