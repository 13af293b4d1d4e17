-- Manual 2.2.5: what a load reads and a store writes, over the whole arena.
use Rattle.std.specs.Prelude.{ℕ, List}
use Rattle.word.specs.Word.{sext}
use Rattle.byte_order.specs.Bytes.{get_le, put_le}
use Rattle.isa.specs.declared.Load.{Load}
use Rattle.isa.specs.declared.Load.TheVariants.{LdB, LdH, LdW, LdD, LdBu, LdHu, LdWu}
use Rattle.isa.specs.declared.Store.{Store}
use Rattle.isa.specs.declared.Store.TheVariants.{StB, StH, StW, StD}
use Rattle.place.specs.declared.ArenaOffset.{ArenaOffset}
use Rattle.place.specs.declared.Width.{Width}
use Rattle.place.specs.declared.Width.TheVariants.{Byte, Half, Word, Double}
use Rattle.place.specs.Place.{bytes_of}

-- LD.B[U], LD.H[U], LD.W[U], LD.D: "retrieves a byte / half word / word / double word"
abbrev pub load_width_of : Load → Width
load_width_of LdB = Byte
load_width_of LdH = Half
load_width_of LdW = Word
load_width_of LdD = Double
load_width_of LdBu = Byte
load_width_of LdHu = Half
load_width_of LdWu = Word

-- "and writes it to the general register rd after sign extension", or after zero extension for the U forms
abbrev pub extended_of : Load → ℕ → ℕ
extended_of LdB n = sext 8 n
extended_of LdH n = sext 16 n
extended_of LdW n = sext 32 n
extended_of LdD n = n
extended_of LdBu n = n
extended_of LdHu n = n
extended_of LdWu n = n

-- what a load puts into its register
unfoldable pub loaded_of : Load → ArenaOffset → List ℕ → ℕ
loaded_of kind at arena = extended_of kind (get_le (bytes_of (load_width_of kind)) at.0 arena)

-- ST.B, ST.H, ST.W, ST.D: "writes the [7:0] / [15:0] / [31:0] / [63:0] bits of the data in the general register rd to the memory"
abbrev pub store_width_of : Store → Width
store_width_of StB = Byte
store_width_of StH = Half
store_width_of StW = Word
store_width_of StD = Double

-- the arena after a store
unfoldable pub stored_of : Width → ArenaOffset → ℕ → List ℕ → List ℕ
stored_of width at value arena = put_le (bytes_of width) at.0 value arena
