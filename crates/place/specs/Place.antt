-- The house map, and where the bytes at a guest address stand (01, "The guest machine" and "Stops"). Everything is on whole
-- numbers: no sum here wraps but `plus_of`.
use Rattle.std.specs.Prelude.{ℕ, ◌+◌, ◌-◌, ◌%◌, ◌≤◌, ◌<◌, Bool, cond, ◌&&◌, leb, eqb, List, length, Option, Some, None}
use Rattle.word.specs.Word.{add_d}
use Rattle.place.specs.declared.GuestAddr.{GuestAddr}
use Rattle.place.specs.declared.Window.{Window}
use Rattle.place.specs.declared.Width.{Width}
use Rattle.place.specs.declared.Width.TheVariants.{Byte, Half, Word, Double}
use Rattle.place.specs.declared.ArenaOffset.{ArenaOffset}
use Rattle.place.specs.declared.CodeOffset.{CodeOffset}

-- "House map: code is at guest address 0x10000 upward, 0 to 65,536 bytes"
abbrev pub code_base : ℕ
code_base = 0x10000

abbrev pub code_max : ℕ
code_max = 65536

-- "The window is at 0x40000000 upward, 0 to 65,536 bytes."
abbrev pub window_base : ℕ
window_base = 0x40000000

abbrev pub window_max : ℕ
window_max = 65536

-- the arena's byte i is one of the window's
abbrev pub Inside : Window → ℕ → Type 0
Inside w i = (w.start.0 ≤ i) × (i < w.start.0 + w.len)

-- the window lies in the arena
abbrev pub InArena : Window → List ℕ → Type 0
InArena w arena = w.start.0 + w.len ≤ length arena

-- byte, half, word and double (manual 1.4)
abbrev pub bytes_of : Width → ℕ
bytes_of Byte = 1
bytes_of Half = 2
bytes_of Word = 4
bytes_of Double = 8

-- "Sums of addresses are modulo 2^64."
abbrev pub plus_of : GuestAddr → ℕ → GuestAddr
plus_of a n = record { 0 = add_d a.0 n }

-- all n bytes from a on lie in the len bytes from base on
abbrev pub within_of : ℕ → ℕ → ℕ → ℕ → Bool
within_of base len a n = leb base a && leb (a + n) (base + len)

-- how far from base, if so
abbrev pub within_at : ℕ → ℕ → ℕ → ℕ → Option ℕ
within_at base len a n = cond (within_of base len a n) (Some (a - base)) None

-- "An access of n bytes needs .. all n bytes in the window." The byte at guest address window_base + d is the arena's byte start + d.
unfoldable pub locate_of : Window → GuestAddr → Width → Option ArenaOffset
locate_of w a k =
    cond (within_of window_base w.len a.0 (bytes_of k))
    (Some (record { 0 = w.start.0 + (a.0 - window_base) }))
    None

-- "pc not a multiple of 4 or outside code (ADEF)". The byte at guest address code_base + d is the code's byte d.
unfoldable pub fetch_place_of : ℕ → GuestAddr → Option CodeOffset
fetch_place_of len pc =
    cond (eqb (pc.0 % 4) 0 && within_of code_base len pc.0 4)
    (Some (record { 0 = pc.0 - code_base }))
    None
