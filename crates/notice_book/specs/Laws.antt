-- What a notice's rows and its rule mean. Assumes nothing.
use Rattle.std.specs.Prelude.{◌≡◌, ℕ, ◌≤◌, true, List, ◌∷◌, ◌++◌, length, Ok}
use Rattle.std.specs.List.{list_all}
use Rattle.notice_book.specs.Bytes.{notice_lawful, printable, row_of, text}
use Rattle.notice_book.specs.Notices.{notice_book, notice_entry}
use Rattle.notice_book.specs.declared.entry.NoticeEntry.{NoticeEntry}
use Rattle.notice_book.specs.declared.entry.NoticeEntry.TheVariants.{Insert, Delete}

-- lawful rows and texts of up to 64 printable bytes are one: each text has a lawful row from which it is read again, and each lawful row is that of its text
abbrev pub RowsAreTexts : Type 0
RowsAreTexts =
    ((t : List ℕ) → length t ≤ 64 → list_all printable t ≡ true → (notice_lawful (row_of t) ≡ true) × (text (row_of t) ≡ t))
    × ((row : List ℕ) → notice_lawful row ≡ true → (length (text row) ≤ 64) × (list_all printable (text row) ≡ true) × (row_of (text row) ≡ row))

-- a text and the text with the byte of an entry put in or taken out: what stands before the place and after it stays
abbrev pub Edits : NoticeEntry → List ℕ → List ℕ → Type 0
Edits (Insert place byte) old new = (front : List ℕ) × (back : List ℕ) × (length front ≡ place) × (old ≡ front ++ back) × (new ≡ front ++ byte ∷ back)
Edits (Delete place) old new = (front : List ℕ) × (byte : ℕ) × (back : List ℕ) × (length front ≡ place) × (old ≡ front ++ byte ∷ back) × (new ≡ front ++ back)

-- every entry that the notice accepts does just that to the text of the row
abbrev pub AcceptedEntriesEdit : Type 0
AcceptedEntriesEdit = (row new : List ℕ) (word : ℕ) → notice_lawful row ≡ true → notice_book.rule row word ≡ Ok new
    → (entry : NoticeEntry) × (notice_entry word ≡ Ok entry) × Edits entry (text row) (text new)
