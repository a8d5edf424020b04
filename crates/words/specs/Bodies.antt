-- How long a body may be, and a body in the first words of a space. Assumes nothing.
use Rattle.std.specs.Prelude.{◌≡◌, ℕ, ◌<◌, ◌≤◌, List, ◌++◌, length, drop, Ok, Err, Result}
use Rattle.words.specs.declared.refusal.Refusal.{Refusal}
use Rattle.words.specs.declared.refusal.Refusal.TheVariants.{SpaceTooShort}

-- the most words that a body has
abbrev pub longest_body : ℕ
longest_body = 32

-- a space after a body was laid into it: the body in its first words, the other words as they were
abbrev pub laid : List ℕ → List ℕ → List ℕ
laid body space = body ++ drop (length body) space

-- What laying a body into a space answers and leaves.
abbrev pub Lays : List ℕ → List ℕ → Result (Unit {0}) Refusal → List ℕ → Type 0
Lays body space (Ok _) space' = (length body ≤ length space) × (space' ≡ laid body space)
Lays body space (Err e) space' = (length space < length body) × (e ≡ SpaceTooShort) × (space' ≡ space)
