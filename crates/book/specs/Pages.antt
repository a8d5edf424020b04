-- The page of a book: what its entries have made of the opening row. Assumes nothing.
use Rattle.std.specs.Prelude.{ℕ, List, Ok, Err, fold, Result}
use Rattle.words.specs.declared.refusal.Refusal.{Refusal}
use Rattle.words.specs.declared.rule_number.RuleNumber.{RuleNumber}
use Rattle.book.specs.Kinds.{Book, placed}

-- the row after an entry: the rule's new row, or the row as it was where the rule refuses
abbrev pub row_after : List ℕ → Result (List ℕ) RuleNumber → List ℕ
row_after row (Ok new) = new
row_after row (Err n) = row

-- the opening row with a list of entries applied in order, refused ones passed over
abbrev pub page : Book → List ℕ → List ℕ
page b entries = fold (λ row entry. row_after row (b.rule row entry)) b.opening entries

-- that page in the first words of a space
abbrev pub paged : Book → List ℕ → List ℕ → Result (List ℕ) Refusal
paged b entries space = placed b.width (page b entries) space
