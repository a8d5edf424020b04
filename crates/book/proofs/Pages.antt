-- The page of a book is lawful, and what one entry more makes of it. Assumes nothing.
use Rattle.std.proofs.Common.{◌≡◌, ℕ, ◌+◌, ◌-◌, ◌<◌, true, cond, List, [], ◌∷◌, ◌++◌, length, get_or, take, drop, Ok, Err, fold, Result, sym, refl, ap, ◌∙◌, arith}
use Rattle.std.proofs.lemmas.List.{drop_at, take_at}
use Rattle.std.proofs.lemmas.List.Sums.{fold_more}
use Rattle.words.specs.declared.refusal.Refusal.{Refusal}
use Rattle.words.specs.declared.refusal.Refusal.TheVariants.{UnlawfulRow}
use Rattle.words.specs.declared.rule_number.RuleNumber.{RuleNumber}
use Rattle.book.specs.Kinds.{Book, Kept, Sound, answered, applied, by_rule}
use Rattle.book.specs.Pages.{page, row_after}
use Rattle.book.proofs.Answered.{Says}

-- the row that a call leaves of a lawful row
pub row_left : (b : Book) (row left : List ℕ) (entry : ℕ) (r : Result (Unit {0}) Refusal) → b.lawful row ≡ true → Says row left r (applied b row entry) → left ≡ row_after row (b.rule row entry)
row_left b row left entry r lawful e =
    ap (λ p. p.1) (e ∙ ap (λ t. answered row (cond t (by_rule (b.rule row entry)) (Err UnlawfulRow))) lawful) ∙ go (b.rule row entry)
  where
    go : (v : Result (List ℕ) RuleNumber) → (answered row (by_rule v)).1 ≡ row_after row v
    go (Ok new) = refl
    go (Err n) = refl

module _ (b : Book) (s : Sound b) where
  after_lawful : (row : List ℕ) (v : Result (List ℕ) RuleNumber) → b.lawful row ≡ true → Kept b v → b.lawful (row_after row v) ≡ true
  after_lawful row (Ok new) h k = k
  after_lawful row (Err n) h k = h

  from_lawful : (row entries : List ℕ) → b.lawful row ≡ true → b.lawful (fold (λ row entry. row_after row (b.rule row entry)) row entries) ≡ true
  from_lawful row [] h = h
  from_lawful row (e ∷ es) h = from_lawful (row_after row (b.rule row e)) es (after_lawful row (b.rule row e) h (s.keeps row e h))

  -- the page is lawful
  pub page_lawful : (entries : List ℕ) → b.lawful (page b entries) ≡ true
  page_lawful entries = from_lawful b.opening entries s.opens

  pub page_long : (entries : List ℕ) → length (page b entries) ≡ b.width
  page_long entries = s.long (page b entries) (page_lawful entries)

  -- one entry more
  pub page_more : (entries start space left : List ℕ) (i w : ℕ) (r : Result (Unit {0}) Refusal) → w ≡ b.width → i < length entries → space ≡ page b (take i entries) ++ drop w start
      → Says (take (w - 0) space) left r (applied b (take (w - 0) space) (get_or entries i 0)) → left ++ drop (w - 0) space ≡ page b (take (i + 1) entries) ++ drop w start
  page_more entries start space left i w r e h is told =
      let row = page b (take i entries) in
      let long : length row ≡ w = page_long (take i entries) ∙ sym e in
      let front : take (w - 0) space ≡ row = ap (take (w - 0)) is ∙ take_at row (drop w start) (w - 0) (omega arith) in
      let back : drop (w - 0) space ≡ drop w start = ap (drop (w - 0)) is ∙ drop_at row (drop w start) (w - 0) (omega arith) in
      let told' : Says row left r (applied b row (get_or entries i 0)) = rw front at told in
      let made = row_left b row left (get_or entries i 0) r (page_lawful (take i entries)) told' ∙ sym (fold_more (λ row entry. row_after row (b.rule row entry)) b.opening entries i 0 h) in
      λ j. made j ++ back j
