-- The kinds of words, by their numbers. Assumes nothing.
use Rattle.std.specs.Prelude.{◌≡◌, ℕ, ◌<◌, ◌⊎◌, Ok, Err, Result}
use Rattle.words.specs.declared.refusal.Refusal.{Refusal}
use Rattle.words.specs.declared.refusal.Refusal.TheVariants.{UnlawfulWord}
use Rattle.words.specs.declared.kind.Kind.{Kind}
use Rattle.words.specs.declared.kind.Kind.TheVariants.{Find, Book, Opened, Asked, Granted, Passed, Landed, Moved, Written, Rests, Sent, Refused}

-- the number of a kind
abbrev pub kind_number : Kind → ℕ
kind_number Find = 1
kind_number Book = 2
kind_number Opened = 3
kind_number Asked = 4
kind_number Granted = 5
kind_number Passed = 6
kind_number Landed = 7
kind_number Moved = 8
kind_number Written = 9
kind_number Rests = 10
kind_number Sent = 11
kind_number Refused = 12

-- What asking for the kind of a number answers.
abbrev pub Numbered : ℕ → Result Kind Refusal → Type 0
Numbered number (Ok kind) = kind_number kind ≡ number
Numbered number (Err e) = ((number < 1) ⊎ (12 < number)) × (e ≡ UnlawfulWord)
