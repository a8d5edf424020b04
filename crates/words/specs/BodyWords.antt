-- The words of a body, and what copying lent words into one answers. Assumes nothing.
use Rattle.std.specs.Prelude.{◌≡◌, ℕ, ◌<◌, ◌≤◌, List, length, take, Ok, Err, Result}
use Rattle.words.specs.Bodies.{longest_body}
use Rattle.words.specs.declared.body.Body.{Body}
use Rattle.words.specs.declared.refusal.Refusal.{Refusal}
use Rattle.words.specs.declared.refusal.Refusal.TheVariants.{BodyTooLong}

-- the words of a body: the first of its memory
abbrev pub body_words : Body → List ℕ
body_words body = take body.size body.words

-- What a copy of lent words answers.
abbrev pub Copied : List ℕ → Result Body Refusal → Type 0
Copied list (Ok body) = (length list ≤ longest_body) × (body_words body ≡ list)
Copied list (Err e) = (longest_body < length list) × (e ≡ BodyTooLong)
