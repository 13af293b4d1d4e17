-- What is put on a page: as part of its bytes, and one text behind the other.
use Rattle.std.proofs.Common.{◌≡◌, refl, sym, ◌∙◌, arith, ℕ, ◌+◌, ◌-◌, ◌≤◌, List, [], ◌++◌, length, take, drop}
use Rattle.std.proofs.lemmas.List.{append_assoc, drop-drop, length-append}
use lib.Seq.{sets, sets-eq, length-sets}
use borrow.Rule.Slice.PartMut.{put_mid}
use Rattle.byte_order.proofs.Joined.{joined}
use Rattle.page.specs.declared.Page.{Page}
use Rattle.page.specs.Page.{Room, Puts}

pub put_part : (xs ys l : List ℕ) (at : ℕ) → at + length xs ≤ length l → ys ≡ xs → put_mid at (at + length xs - at) l ys ≡ sets l at xs
put_part xs ys l at h e =
    let width : at + length xs - at ≡ length xs = omega arith in
    rw (e, width, drop-drop, sets-eq xs l at h) (sym (append_assoc (take at l) xs (drop (at + length xs) l)))

-- nothing is put
pub nothing : (p : Page) → Puts [] p p
nothing p = record { lent = refl; place = omega arith; bytes = refl }

-- two texts, one behind the other: there is room for the first, then for the second, and both were put
pub first_room : (xs ys : List ℕ) (p : Page) → Room (xs ++ ys) p → Room xs p
first_room xs ys p h = let e = length-append xs ys in omega (arith, h, e)

pub length_put : (xs : List ℕ) (p q : Page) → Puts xs p q → length q.bytes.now ≡ length p.bytes.now
length_put xs p q put = rw put.bytes (length-sets p.bytes.now p.at xs)

pub next_room : (xs ys : List ℕ) (p q : Page) → Room (xs ++ ys) p → Puts xs p q → Room ys q
next_room xs ys p q h put = let e = length-append xs ys in let l = length_put xs p q put in omega (arith, h, put.place, e, l)

pub both : (xs ys : List ℕ) (p q r : Page) → Puts xs p q → Puts ys q r → Puts (xs ++ ys) p r
both xs ys p q r a b =
    let e = length-append xs ys in
    record {
      lent = b.lent ∙ a.lent;
      place = omega (arith, a.place, b.place, e);
      bytes = joined xs ys p.bytes.now q.bytes.now r.bytes.now p.at q.at a.place a.bytes b.bytes;
    }
