-- What a kind of book is, and what its calls answer. Assumes nothing.
use Rattle.std.specs.Prelude.{◌≡◌, ℕ, ◌≤◌, Bool, true, cond, List, ◌++◌, length, drop, Ok, Err, Result, nat_lt}
use Rattle.words.specs.declared.refusal.Refusal.{Refusal}
use Rattle.words.specs.declared.refusal.Refusal.TheVariants.{UnlawfulRow, SpaceTooShort, Rule}
use Rattle.words.specs.declared.rule_number.RuleNumber.{RuleNumber}

-- the meaning of a kind of book. A book is a row, which is a list of words; an entry is a word that asks for a change of the row
pub record Book : Type 0 where
  -- how many words a row has
  pub width : ℕ
  -- which rows a book of this kind may have
  pub lawful : List ℕ → Bool
  -- the row of a new book
  pub opening : List ℕ
  -- what a row and an entry make: a new row, or a refusal with a number of the kind's own
  pub rule : List ℕ → ℕ → Result (List ℕ) RuleNumber

-- what a rule may make of a lawful row: a lawful row, or a refusal with a number up to 255. (A rule number is never 0.)
abbrev pub Kept : Book → Result (List ℕ) RuleNumber → Type 0
Kept b (Ok new) = b.lawful new ≡ true
Kept b (Err n) = n.value ≤ 255

-- what makes it a kind: at most 32 words, lawful rows of exactly so many, a lawful opening row, and a rule that keeps rows lawful
pub record Sound (b : Book) : Type 0 where
  pub narrow : b.width ≤ 32
  pub long : (row : List ℕ) → b.lawful row ≡ true → length row ≡ b.width
  pub opens : b.lawful b.opening ≡ true
  pub keeps : (row : List ℕ) (entry : ℕ) → b.lawful row ≡ true → Kept b (b.rule row entry)

-- what a call answers and leaves of lent words: the new words, or the refusal and the words as they were
abbrev pub answered : {E : Type 0} → List ℕ → Result (List ℕ) E → Result (Unit {0}) E × List ℕ
answered words (Ok new) = (Ok tt, new)
answered words (Err e) = (Err e, words)

-- a row of so many words in the first words of a space, whose other words stay, unless the space is too short
abbrev pub placed : ℕ → List ℕ → List ℕ → Result (List ℕ) Refusal
placed width row space = cond (nat_lt (length space) width) (Err SpaceTooShort) (Ok (row ++ drop width space))

-- the opening row in the first words of a space
abbrev pub opened : Book → List ℕ → Result (List ℕ) Refusal
opened b space = placed b.width b.opening space

-- what a rule made, its refusal as a refusal of the call
abbrev pub by_rule : Result (List ℕ) RuleNumber → Result (List ℕ) Refusal
by_rule (Ok new) = Ok new
by_rule (Err n) = Err (Rule n)

-- what a kind makes of a row and an entry: a row that is not lawful is refused before anything else
abbrev pub applied : Book → List ℕ → ℕ → Result (List ℕ) Refusal
applied b row entry = cond (b.lawful row) (by_rule (b.rule row entry)) (Err UnlawfulRow)
