-- Rows and texts are one, and the notice's rule keeps rows lawful. Assumes nothing.
use Rattle.std.specs.Prelude.{◌≡◌, ℕ, zero, suc, ◌-◌, ◌<◌, ◌≤◌, Bool, true, List, [], ◌∷◌, ◌++◌, length, take, drop, replicate, Ok, Err, Result, ◌==◌, nat_le, nat_lt, slice_index, refl}
use Rattle.std.proofs.Common.{sym, ap, subst, ◌∙◌, arith, lit≤, length-append, length-drop, drop-cons}
use Rattle.std.specs.List.{AllByRecursion, list_all}
use Rattle.std.proofs.lemmas.List.Folds.{list_all-append}
use Rattle.std.proofs.ByRecursion.{All-append}
use Rattle.std.proofs.lemmas.List.{drop_at, length-take-le, take-append-drop, take_at, length-replicate}
use Rattle.std.proofs.lemmas.Bool.{and_from, and_parts, cond_both, eq-eqb, le-leb, leb-true, ltb-false, ltb-true}
use Rattle.std.proofs.lemmas.Bool.Decides.{nat_tests}
use Rattle.book.specs.Numbers.{by_fault_ok, fault_le}
use Rattle.book.specs.Faults.{by_fault}
use Rattle.book.specs.Kinds.{Kept, Sound}
use Rattle.book.specs.declared.fault.Fault.{Fault}
use Rattle.notice_book.specs.Bytes.{blank, bytes_of, notice_lawful, printable, row_of, text, words_of}
use Rattle.notice_book.specs.Examples.{WorkedExamples}
use Rattle.notice_book.specs.Laws.{AcceptedEntriesEdit, Edits, RowsAreTexts}
use Rattle.notice_book.specs.Notices.{edit, in_row, notice_book, notice_entry, notice_made}
use Rattle.notice_book.specs.declared.entry.NoticeEntry.{NoticeEntry}
use Rattle.notice_book.specs.declared.entry.NoticeEntry.TheVariants.{Insert, Delete}
use Rattle.notice_book.specs.Packing.{bytes_words, length_bytes, length_words, words_bytes}
use Rattle.notice_book.specs.Rows.{row_before_zeros}

-- a test of a list, by its parts
module _ (test : ℕ → Bool) where
  joined_pass : (xs ys : List ℕ) → list_all test xs ≡ true → list_all test ys ≡ true → list_all test (xs ++ ys) ≡ true
  joined_pass xs ys p q = list_all-append test xs ys ∙ and_from _ _ p q

  parts_pass : (n : ℕ) (xs : List ℕ) → list_all test xs ≡ true → (list_all test (take n xs) ≡ true) × (list_all test (drop n xs) ≡ true)
  parts_pass n xs h = and_parts _ _ (sym (list_all-append test (take n xs) (drop n xs)) ∙ ap (list_all test) (take-append-drop n xs) ∙ h)

blanks : (n : ℕ) → list_all blank (replicate n 0) ≡ true
blanks zero = refl
blanks (suc n) = blanks n

small_text : (t : List ℕ) → list_all printable t ≡ true → AllByRecursion (λ b. b < 256) t
small_text [] h = tt
small_text (b ∷ t) h =
    let p = and_parts (printable b) (list_all printable t) h in
    let q = and_parts (nat_le 32 b) (nat_le b 126) p.0 in
    (omega (arith, leb-true b 126 q.1), small_text t p.1)

small_zeros : (n : ℕ) → AllByRecursion (λ b. b < 256) (replicate n 0)
small_zeros zero = tt
small_zeros (suc n) = (omega arith, small_zeros n)

-- the bytes in the row of a text: the text, and zeros behind it
module _ (t : List ℕ) (short : length t ≤ 64) (fits : list_all printable t ≡ true) where
  padded_length : length (t ++ replicate (64 - length t) 0) ≡ 64
  padded_length = grind (arith, length-append, length-replicate)

  row_bytes : bytes_of (words_of (t ++ replicate (64 - length t) 0)) ≡ t ++ replicate (64 - length t) 0
  row_bytes = bytes_words (t ++ replicate (64 - length t) 0) (omega (arith, padded_length)) (All-append (λ b. b < 256) t _ (small_text t fits) (small_zeros (64 - length t)))

  pub text_row : text (row_of t) ≡ t
  text_row = ap (take (length t)) row_bytes ∙ take_at t _ (length t) refl

  pub lawful_row : notice_lawful (row_of t) ≡ true
  lawful_row =
      and_from _ _ (eq-eqb _ _ (omega (arith, length_words (t ++ replicate (64 - length t) 0), padded_length)))
      (and_from _ _ (le-leb _ _ short)
      (and_from _ _ (ap (list_all printable) text_row ∙ fits) (ap (list_all blank) (ap (drop (length t)) row_bytes ∙ drop_at t _ (length t) refl) ∙ blanks (64 - length t))))

-- what a lawful row is
lawful_parts : (size : ℕ) (words : List ℕ) → notice_lawful (size ∷ words) ≡ true
    → (length words ≡ 16) × (size ≤ 64) × (list_all printable (take size (bytes_of words)) ≡ true) × (list_all blank (drop size (bytes_of words)) ≡ true)
lawful_parts size words h = (grind (arith, nat_tests), grind (arith, nat_tests), grind (arith, nat_tests), grind (arith, nat_tests))

pub row_text : (row : List ℕ) → notice_lawful row ≡ true → (length (text row) ≤ 64) × (list_all printable (text row) ≡ true) × (row_of (text row) ≡ row)
row_text [] h = cc
row_text (size ∷ words) h =
    let p = lawful_parts size words h in
    let long : length (bytes_of words) ≡ 64 = omega (arith, length_bytes words) in (
      omega (arith, length-take-le size (bytes_of words)),
      p.2,
      row_before_zeros size (bytes_of words) p.1 long p.3 ∙ ap (λ ws. size ∷ ws) (words_bytes words),
    )

pub rows_are_texts : RowsAreTexts
rows_are_texts = (λ t short fits. (lawful_row t short fits, text_row t short fits), row_text)

-- what an entry makes of a text
abbrev Made : NoticeEntry → List ℕ → Result (List ℕ) Fault → Type 0
Made entry t (Ok new) = (length new ≤ 64) × (list_all printable new ≡ true) × Edits entry t new
Made entry t (Err f) = Unit {0}

edit_made : (t : List ℕ) (entry : NoticeEntry) → length t ≤ 64 → list_all printable t ≡ true → Made entry t (edit t entry)
edit_made t (Insert place byte) short fits =
    let P = Made (Insert place byte) t in
    cond_both (length t == 64) _ _ P (λ _. tt) λ room. cond_both (nat_lt (length t) place) _ _ P (λ _. tt) λ within. cond_both (printable byte) _ _ P (λ ok. (
      grind (arith, nat_tests, length-append, length-take-le, length-drop),
      joined_pass printable (take place t) (byte ∷ drop place t) (parts_pass printable place t fits).0 (and_from _ _ ok (parts_pass printable place t fits).1),
      (take place t, drop place t, length-take-le place t (ltb-false _ _ within), sym (take-append-drop place t), refl),
    )) (λ _. tt)
edit_made t (Delete place) short fits =
    let P = Made (Delete place) t in
    cond_both (nat_lt place (length t)) _ _ P (λ inside.
    let within = ltb-true _ _ inside in (
      grind (arith, length-append, length-take-le, length-drop),
      joined_pass printable (take place t) (drop (suc place) t) (parts_pass printable place t fits).0 (parts_pass printable (suc place) t fits).1,
      (take place t, slice_index t place, drop (suc place) t, length-take-le place t (omega arith), sym (take-append-drop place t) ∙ ap (λ l. take place t ++ l) (drop-cons t place 0 within), refl),
    )) (λ _. tt)

-- what a row and an entry word come to
abbrev RowMade : List ℕ → Result NoticeEntry Fault → Result (List ℕ) Fault → Type 0
RowMade row entry (Ok new) = (notice_lawful new ≡ true) × ((e : NoticeEntry) × (entry ≡ Ok e) × Edits e (text row) (text new))
RowMade row entry (Err f) = Unit {0}

in_row_made : (row : List ℕ) (entry : NoticeEntry) (v : Result (List ℕ) Fault) → Made entry (text row) v → RowMade row (Ok entry) (in_row v)
in_row_made row entry (Ok new) m = (lawful_row new m.0 m.1, (entry, refl, subst (Edits entry (text row)) (sym (text_row new m.0 m.1)) m.2))
in_row_made row entry (Err f) m = tt

row_made : (row : List ℕ) (entry : Result NoticeEntry Fault) → notice_lawful row ≡ true → RowMade row entry (notice_made row entry)
row_made row (Ok entry) h = let p = row_text row h in in_row_made row entry (edit (text row) entry) (edit_made (text row) entry p.0 p.1)
row_made row (Err f) h = tt

kept : (row : List ℕ) (entry : Result NoticeEntry Fault) (v : Result (List ℕ) Fault) → RowMade row entry v → Kept notice_book (by_fault v)
kept row entry (Ok new) m = m.0
kept row entry (Err f) m = fault_le f

long : (row : List ℕ) → notice_lawful row ≡ true → length row ≡ 17
long [] h = cc
long (size ∷ words) h = omega (arith, (lawful_parts size words h).0)

pub notice_sound : Sound notice_book
notice_sound = record {
  narrow = lit≤ tt;
  long = long;
  opens = refl;
  keeps = λ row word h. kept row (notice_entry word) _ (row_made row (notice_entry word) h);
}

pub accepted_entries_edit : AcceptedEntriesEdit
accepted_entries_edit row new word h e = (subst (RowMade row (notice_entry word)) (by_fault_ok _ new e) (row_made row (notice_entry word) h)).1

pub worked_examples : WorkedExamples
worked_examples = record { paid = refl; unpaid = refl; put = refl; misplaced = refl }
