-- The notice: a text of at most 64 bytes, and the entries that change it. Assumes nothing.
use Rattle.std.specs.Prelude.{ℕ, ◌/◌, ◌%◌, ◌^◌, cond, ◌&&◌, List, length, replicate, Ok, Err, Result, ◌==◌, nat_lt}
use Rattle.std.specs.List.{insert, remove}
use Rattle.book.specs.Faults.{by_fault}
use Rattle.book.specs.Kinds.{Book}
use Rattle.book.specs.declared.fault.Fault.{Fault}
use Rattle.book.specs.declared.fault.Fault.TheVariants.{UnknownEntry, TextFull, NoSuchPlace, BadByte}
use Rattle.notice_book.specs.Bytes.{notice_lawful, printable, row_of, text}
use Rattle.notice_book.specs.declared.entry.NoticeEntry.{NoticeEntry}
use Rattle.notice_book.specs.declared.entry.NoticeEntry.TheVariants.{Insert, Delete}

-- the entry that a word stands for. Insert: bits 31-28 are 2, 27-20 the place, 19-8 zero, 7-0 the byte. Delete: bits 31-28 are 3, 27-20 the place, 19-0 zero
abbrev pub notice_entry : ℕ → Result NoticeEntry Fault
notice_entry word =
    cond (word / 2 ^ 28 == 2 && word / 2 ^ 8 % 2 ^ 12 == 0) (Ok (Insert (word / 2 ^ 20 % 2 ^ 8) (word % 2 ^ 8)))
    (cond (word / 2 ^ 28 == 3 && word % 2 ^ 20 == 0) (Ok (Delete (word / 2 ^ 20 % 2 ^ 8))) (Err UnknownEntry))

-- what an entry makes of a text. An insert is refused when the text is full, when the place is past its end, and when the byte is not printable;
-- a delete when the text has no such place
abbrev pub edit : List ℕ → NoticeEntry → Result (List ℕ) Fault
edit t (Insert place byte) = cond (length t == 64) (Err TextFull) (cond (nat_lt (length t) place) (Err NoSuchPlace) (cond (printable byte) (Ok (insert t place byte)) (Err BadByte)))
edit t (Delete place) = cond (nat_lt place (length t)) (Ok (remove t place)) (Err NoSuchPlace)

-- the row of a text that was made
abbrev pub in_row : Result (List ℕ) Fault → Result (List ℕ) Fault
in_row (Ok t) = Ok (row_of t)
in_row (Err f) = Err f

-- what the rule makes of a row and what an entry word stands for
abbrev pub notice_made : List ℕ → Result NoticeEntry Fault → Result (List ℕ) Fault
notice_made row (Ok entry) = in_row (edit (text row) entry)
notice_made row (Err f) = Err f

-- the notice: it opens with no text
abbrev pub notice_book : Book
notice_book = record {
  width = 17;
  lawful = notice_lawful;
  opening = replicate 17 0;
  rule = λ row word. by_fault (notice_made row (notice_entry word));
}
