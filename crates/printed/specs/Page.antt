-- What printing promises of the page, which the caller lends.
use Rattle.std.specs.Prelude.{ℕ, ◌≤◌, ◌≡◌, List, ◌++◌, length, take, drop}
use Rattle.session.specs.declared.Reply.{Reply}
use Rattle.printed.specs.Lines.{printed_of}

-- the text stands at the front, the length is the text's, and the rest of the page is as it was
abbrev pub Prints : Reply → List ℕ → ℕ → List ℕ → Type 0
Prints reply before n after = (n ≡ length (printed_of reply)) × (after ≡ printed_of reply ++ drop n before)

-- n counts bytes at the front of the page. The second part follows from the first; stated so, it is found where a caller lends that many.
abbrev pub Within : ℕ → List ℕ → Type 0
Within n page = (n ≤ length page) × (n ≡ length (take n page))
