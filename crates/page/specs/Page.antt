-- Bytes on a page: that there is room for them, and that they were put.
use Rattle.std.specs.Prelude.{ℕ, ◌+◌, ◌≤◌, ◌≡◌, List, length}
use Rattle.std.proofs.lemmas.List.Edits.{sets}
use Rattle.page.specs.declared.Page.{Page}

abbrev pub Room : List ℕ → Page → Type 0
Room text p = p.at + length text ≤ length p.bytes.now

-- the text stands where the page was, the page is behind it, and it is still the same bytes that are lent
pub record Puts (text : List ℕ) (before after : Page) : Type 0 where
  pub lent : after.bytes.ghost_name ≡ before.bytes.ghost_name
  pub place : after.at ≡ before.at + length text
  pub bytes : after.bytes.now ≡ sets before.bytes.now before.at text
