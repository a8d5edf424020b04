-- The text that a value of the code stands for. Assumes nothing.
use Rattle.std.specs.Prelude.{◌≡◌, ℕ, true, false, List, MatchResult, Result}
use Rattle.words.specs.declared.refusal.Refusal.{Refusal}
use Rattle.words.specs.declared.refusal.Refusal.TheVariants.{UnlawfulRow}
use Rattle.notice_book.specs.Bytes.{notice_lawful, text}
use Rattle.notice_book.specs.declared.text.Text.{Text}

-- its bytes
abbrev pub letters : Text → List ℕ
letters t = t.bytes.items

-- the text of a lawful row, and UnlawfulRow for another
abbrev pub IsRead : List ℕ → Result Text Refusal → Type 0
IsRead row r = MatchResult r (λ t. (notice_lawful row ≡ true) × (letters t ≡ text row)) (λ e. (notice_lawful row ≡ false) × (e ≡ UnlawfulRow))
