-- The head words of parcels, made and read back. Assumes nothing.
use Rattle.std.proofs.Common.{◌≡◌, ℕ, ◌+◌, ◌*◌, ◌^◌, ◌<◌, eqb, List, [], Ok, ap, ◌∙◌, arith}
use Rattle.std.proofs.lemmas.Bool.{cond-true, cond-false, lt-ltb, eq-eqb, ne_eqb}
use Rattle.carrier.specs.Parcels.{Parcel}
use Rattle.words.specs.Fields.{fits, tag, below_tag}
use Rattle.words.specs.Messages.{message_of, message_word}
use Rattle.words.specs.declared.message.Message.TheVariants.{Find, Book}

-- the head words
unfoldable pub find_head : ℕ → ℕ
find_head a = 1 * 2 ^ 28 + a

unfoldable pub book_head : ℕ → ℕ
book_head a = 2 * 2 ^ 28 + a

-- the parcel of a find word, and of a book word with the page
abbrev pub find_parcel : ℕ → Parcel
find_parcel a = record { head = find_head a; body = [] }

abbrev pub book_parcel : ℕ → List ℕ → Parcel
book_parcel a page = record { head = book_head a; body = page }

-- how many panels a head word can name
abbrev pub named : ℕ
named = 32

pub find_made : (a : ℕ) → a < named → message_word (Find a) ≡ Ok (find_head a)
unfolding find_head
find_made a l = cond-true (fits a) _ _ (lt-ltb a 32 l)

pub book_made : (a : ℕ) → a < named → message_word (Book a) ≡ Ok (book_head a)
unfolding book_head
book_made a l = cond-true (fits a) _ _ (lt-ltb a 32 l)

read_as_find : (w a : ℕ) → a < named → tag w ≡ 1 → below_tag w ≡ a → message_of w ≡ Ok (Find a)
read_as_find w a l t b =
    cond-true (fits (below_tag w)) _ _ (lt-ltb (below_tag w) 32 (omega arith)) ∙ cond-true (eqb (tag w) 1) _ _ (eq-eqb (tag w) 1 t) ∙ ap (λ x. Ok (Find x)) b

read_as_book : (w a : ℕ) → a < named → tag w ≡ 2 → below_tag w ≡ a → message_of w ≡ Ok (Book a)
read_as_book w a l t b =
    cond-true (fits (below_tag w)) _ _ (lt-ltb (below_tag w) 32 (omega arith))
    ∙ cond-false (eqb (tag w) 1) _ _ (ne_eqb (tag w) 1 (omega arith))
    ∙ cond-true (eqb (tag w) 2) _ _ (eq-eqb (tag w) 2 t) ∙ ap (λ x. Ok (Book x)) b

pub find_read : (a : ℕ) → a < named → message_of (find_head a) ≡ Ok (Find a)
unfolding find_head
find_read a l = read_as_find (1 * 2 ^ 28 + a) a l (omega arith) (omega arith)

pub book_read : (a : ℕ) → a < named → message_of (book_head a) ≡ Ok (Book a)
unfolding book_head
book_read a l = read_as_book (2 * 2 ^ 28 + a) a l (omega arith) (omega arith)
