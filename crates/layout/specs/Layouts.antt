-- A riser layout as a line of text: the parents of its panels. Assumes nothing.
use Rattle.std.specs.Prelude.{◌≡◌, ℕ, cond, List, [], ◌∷◌, length, Ok, Err, vec_items, Result, Vec, nat_le}
use Rattle.std.specs.declared.alloc.Global.{Global}
use Rattle.text.specs.Numbers.{number_of}
use Rattle.text.specs.Pieces.{pieces}
use Rattle.words.specs.declared.refusal.Refusal.{Refusal}
use Rattle.words.specs.declared.refusal.Refusal.TheVariants.{BadLine}
use Rattle.layout.specs.declared.fault.Fault.{Fault}
use Rattle.layout.specs.declared.fault.Fault.TheVariants.{Refused, NoMemory}

-- a number in front of others, unless one of them is refused
abbrev pub joined : Result ℕ Refusal → Result (List ℕ) Refusal → Result (List ℕ) Refusal
joined (Ok n) (Ok ns) = Ok (n ∷ ns)
joined (Ok n) (Err e) = Err e
joined (Err e) more = Err e

-- the numbers of pieces, each of which has to be one
abbrev pub numbers_of : List (List ℕ) → Result (List ℕ) Refusal
numbers_of [] = Ok []
numbers_of (piece ∷ more) = joined (number_of piece) (numbers_of more)

-- the parents that a line gives: at most 200 bytes, numbers with one space between two of them
abbrev pub layout_of : List ℕ → Result (List ℕ) Refusal
layout_of line = cond (nat_le (length line) 200) (numbers_of (pieces line)) (Err BadLine)

-- what was read, unless there was no memory
abbrev pub Reads : Result (List ℕ) Refusal → Result (Vec ℕ Global) Fault → Type 0
Reads answer (Ok numbers) = answer ≡ Ok (vec_items numbers)
Reads answer (Err (Refused e)) = answer ≡ Err e
Reads answer (Err (NoMemory e)) = Unit {0}
