-- What an answer and the words that were left tell of what was made. Assumes nothing.
use Rattle.std.proofs.Common.{◌≡◌, ℕ, List, Result}
use Rattle.book.specs.Kinds.{answered}

module _ {E : Type 0} (words left : List ℕ) where
  -- the type of an answer with the words that are left
  abbrev pub Says : Result (Unit {0}) E → Result (List ℕ) E → Type 0
  Says r made = ◌≡◌ {A = Result (Unit {0}) E × List ℕ} (r, left) (answered words made)
