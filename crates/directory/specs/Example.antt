-- A worked run of the directory: two panels ask at once, and the book comes to one and then to the other. Assumes nothing.
use Rattle.std.specs.Prelude.{◌≡◌, ℕ, List, [], ◌∷◌, slice_index}
use Rattle.directory.specs.Directory.{Directory, idle, front, Move, request, pass, land, hand_on, Run, Opening}

-- four panels: 1 hangs on 0, and 2 and 3 on 1
abbrev pub four : ℕ → ℕ
four v = slice_index (0 ∷ 0 ∷ 1 ∷ 1 ∷ []) v

-- panels 2 and 3 ask; 1 passes the find of 3 to 0 and then that of 2 after it, to 3; 0 hands the book to 3, and 3 to 2
abbrev pub two_ask : List Move
two_ask = request 2 ∷ request 3 ∷ pass 3 3 1 ∷ pass 2 2 1 ∷ land 2 1 3 ∷ land 3 1 0 ∷ hand_on 0 3 ∷ hand_on 3 2 ∷ []

-- the run can be made; at its end panel 2 has the book, all the others are idle, and every arrow leads to 2
abbrev pub WorkedExample : Type 0
WorkedExample = (d : Directory) × (e : Directory) × Opening four d × Run two_ask d e
    × (e.place 0 ≡ idle) × (e.place 1 ≡ idle) × (e.place 2 ≡ front) × (e.place 3 ≡ idle)
    × (e.arrow 0 ≡ 1) × (e.arrow 1 ≡ 2) × (e.arrow 2 ≡ 2) × (e.arrow 3 ≡ 1)
