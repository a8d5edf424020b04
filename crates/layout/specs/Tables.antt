-- The table of cable steps that a layout prints, byte by byte. Assumes nothing.
use Rattle.std.specs.Prelude.{◌≡◌, ℕ, zero, suc, ◌+◌, max, cond, List, [], ◌∷◌, ◌++◌, length, Ok, Err, codes, decimal, Result, nat_le}
use Rattle.std.specs.List.{flat_map}
use Rattle.text.specs.Pieces.{lines}
use Rattle.tree.specs.declared.cables.Tree.{Tree}
use Rattle.tree.specs.Answers.{parents}
use Rattle.tree.specs.Tree.{lawful_tree, distance}
use Rattle.words.specs.Refusals.{number_of}
use Rattle.words.specs.declared.refusal.Refusal.{Refusal}
use Rattle.words.specs.declared.refusal.Refusal.TheVariants.{UnlawfulTree}
use Rattle.layout.specs.declared.fault.Fault.{Fault}
use Rattle.layout.specs.declared.fault.Fault.TheVariants.{Refused, NoMemory}
use Rattle.layout.specs.Layouts.{layout_of}

-- the end of a printed line
abbrev pub line_end : List ℕ
line_end = 10 ∷ []

-- the texts of n numbers from a on, one after the other
abbrev pub texts : (ℕ → List ℕ) → ℕ → ℕ → List ℕ
texts text a zero = []
texts text a (suc n) = text a ++ texts text (a + 1) n

-- the greatest of the values at the numbers below n
abbrev pub greatest : (ℕ → ℕ) → ℕ → ℕ
greatest value zero = 0
greatest value (suc n) = max (greatest value n) (value n)

-- the greatest distance from a panel, and of any two panels
abbrev pub farthest_from : List ℕ → ℕ → ℕ
farthest_from ps a = greatest (distance ps a) (length ps)

abbrev pub farthest : List ℕ → ℕ
farthest ps = greatest (farthest_from ps) (length ps)

-- a number in at least two places, filled with a space on the left
abbrev pub two_places : ℕ → List ℕ
two_places n = cond (nat_le n 9) (32 ∷ decimal n) (decimal n)

-- the heading: how many panels there are, and how far two of them are apart at most
abbrev pub heading : List ℕ → List ℕ
heading ps = codes "panels " ++ (decimal (length ps) ++ (codes " farthest " ++ (decimal (farthest ps) ++ line_end)))

-- the distance from panel a to panel b, behind a space
abbrev pub cell : List ℕ → ℕ → ℕ → List ℕ
cell ps a b = 32 ∷ two_places (distance ps a b)

-- the row of panel a: its number, and its distances to all panels
abbrev pub row : List ℕ → ℕ → List ℕ
row ps a = two_places a ++ (58 ∷ (texts (cell ps a) 0 (length ps) ++ line_end))

-- the heading, and the row of each panel
abbrev pub table : List ℕ → List ℕ
table ps = heading ps ++ texts (row ps) 0 (length ps)

-- a refusal, by its number
abbrev pub refused_line : Refusal → List ℕ
refused_line e = codes "refused " ++ (decimal (number_of e) ++ line_end)

-- what is printed for a layout that was read, or refused
abbrev pub quoted_layout : Result (List ℕ) Refusal → List ℕ
quoted_layout (Ok ps) = cond (lawful_tree ps) (table ps) (refused_line UnlawfulTree)
quoted_layout (Err e) = refused_line e

-- what is printed for a line
abbrev pub quoted : List ℕ → List ℕ
quoted line = quoted_layout (layout_of line)

-- what is printed for a text: that of each of its lines, one after the other
abbrev pub quoted_text : List ℕ → List ℕ
quoted_text text = flat_map quoted (lines text)

-- the text is what is printed for a tree that was read, or for its refusal, unless there was no memory
abbrev pub Quotes : List ℕ → Result Tree Fault → Type 0
Quotes text (Ok tree) = text ≡ table (parents tree)
Quotes text (Err (Refused e)) = text ≡ refused_line e
Quotes text (Err (NoMemory e)) = Unit {0}
