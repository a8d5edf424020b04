-- An edit where nothing refuses it. Assumes nothing.
use Rattle.std.proofs.Common.{◌≡◌, ℕ, ◌<◌, ◌≤◌, true, false, eqb, ltb, ◌≢◌, List, length, Ok}
use Rattle.std.specs.List.{insert, remove}
use Rattle.std.proofs.lemmas.Bool.{le-ltb, lt-ltb, ne_eqb}
use Rattle.notice_book.specs.Bytes.{printable}
use Rattle.notice_book.specs.Notices.{edit}
use Rattle.notice_book.specs.declared.entry.NoticeEntry.TheVariants.{Insert, Delete}

pub insert_done : (t : List ℕ) (place byte : ℕ) → length t ≢ 64 → place ≤ length t → printable byte ≡ true → edit t (Insert place byte) ≡ Ok (insert t place byte)
insert_done t place byte room within fits =
    let e : eqb (length t) 64 ≡ false = ne_eqb _ _ room in
    let f : ltb (length t) place ≡ false = le-ltb _ _ within in
    rw (e, f, fits)

pub delete_done : (t : List ℕ) (place : ℕ) → place < length t → edit t (Delete place) ≡ Ok (remove t place)
delete_done t place within = let e : ltb place (length t) ≡ true = lt-ltb _ _ within in rw e
