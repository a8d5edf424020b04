-- A line as the pieces between its spaces, and a text as its lines. Assumes nothing.
use Rattle.std.specs.Prelude.{ℕ, cond, List, [], ◌∷◌, ◌==◌}

-- a byte put in front of the first piece
abbrev pub grown : ℕ → List (List ℕ) → List (List ℕ)
grown b [] = (b ∷ []) ∷ []
grown b (piece ∷ more) = (b ∷ piece) ∷ more

-- bytes cut wherever the given byte stands, which is left out; `end` is what the empty rest gives
abbrev pub cut_at : ℕ → List (List ℕ) → List ℕ → List (List ℕ)
cut_at byte end [] = end
cut_at byte end (b ∷ bs) = cond (b == byte) ([] ∷ cut_at byte end bs) (grown b (cut_at byte end bs))

-- the pieces of a line between its spaces: one more than it has spaces, empty where two spaces meet or one stands at an end
abbrev pub pieces : List ℕ → List (List ℕ)
pieces line = cut_at 32 ([] ∷ []) line

-- the lines of a text: each ends before byte 10, or at the end; nothing after the last byte 10 is no line
abbrev pub lines : List ℕ → List (List ℕ)
lines text = cut_at 10 [] text
