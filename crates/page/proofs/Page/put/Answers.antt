-- `page::Page::put` meets its contract.
use Rattle.std.proofs.Common.{refl}
use Rattle.page.proofs.Behind.{put_part}
use Rattle.page.proofs.Page.put.Goals as goal

pub returns : goal.returns
returns c =
    let a = c.args in
    record { lent = refl; place = refl; bytes = put_part a.text.now _ a.self.now.bytes.now a.self.now.at c.requires c.copy_from_slice.ensures.after }
