-- What the archive's call promises: the numbers of what `decoder::decode` gives, for every word.
use Rattle.std.specs.Prelude.{ℕ, ◌≡◌}
use Rattle.opcode.specs.Decode.{decode_of}
use Rattle.numbered.specs.declared.DecodedRecord.{DecodedRecord}
use Rattle.numbered.specs.Numbered.{numbered_of}

abbrev pub DecodesRecord : ℕ → DecodedRecord → Type 0
DecodesRecord word r = r ≡ numbered_of (decode_of word)
