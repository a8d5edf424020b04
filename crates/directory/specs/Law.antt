-- The laws of the arrow directory, over every list of moves. Assumes nothing.
use Rattle.std.specs.Prelude.{◌≡◌, ℕ, ◌*◌, ◌<◌, ◌≤◌, List, length}
use Rattle.std.specs.List.{AllByRecursion}
use Rattle.directory.specs.Directory.{Directory, idle, flying, after, front, Move, request, pass, land, hand_on, Does, Run, Tree, Opening}
use Rattle.directory.specs.Queue.{Sound}

-- nobody is left waiting: once no find is under way and nobody is after the front panel, no other panel has a request
abbrev pub NobodyLeftWaiting : Directory → Type 0
NobodyLeftWaiting d = (h : ℕ) → d.place h ≡ front
    → ((a w u : ℕ) → ¬ (d.place a ≡ flying w u))
    → ((a : ℕ) → ¬ (d.place a ≡ after h))
    → (a : ℕ) → ¬ (d.place a ≡ idle) → a ≡ h

-- what holds of a directory after every run
pub record Lawful (d : Directory) : Type 0 where
  -- the laws of the queue
  pub sound : Sound d
  -- one panel at most is in front
  pub one_front : (a b : ℕ) → d.place a ≡ front → d.place b ≡ front → a ≡ b
  -- a find never meets an arrow back along its cable
  pub no_arrow_back : (a w u : ℕ) → d.place a ≡ flying w u → ¬ (d.arrow u ≡ w)
  -- nobody is left waiting
  pub nobody_left_waiting : NobodyLeftWaiting d

-- every list of moves from an opening directory leads to a lawful one
abbrev pub DirectoryLaw : Type 0
DirectoryLaw = (parent : ℕ → ℕ) → Tree parent
    → (ms : List Move) (d e : Directory) → Opening parent d → Run ms d e → Lawful e

-- the move is not a request: it brings an earlier request nearer to the book
abbrev pub Serves : Move → Type 0
Serves (request v) = ⊥
Serves (pass a w u) = Unit {0}
Serves (land a w u) = Unit {0}
Serves (hand_on v f) = Unit {0}

-- if the move is a request, it is that of one of the n panels
abbrev pub Within : ℕ → Move → Type 0
Within n (request v) = v < n
Within n (pass a w u) = Unit {0}
Within n (land a w u) = Unit {0}
Within n (hand_on v f) = Unit {0}

-- some move other than a request can be made
abbrev pub GoesOn : Directory → Type 0
GoesOn d = (m : Move) × (e : Directory) × Serves m × Does m d e

-- every request is served: after any list of moves of n panels, at most n * (2 * n) moves can be made before the next request, and
-- as long as some panel waits, one more can be made
abbrev pub EveryRequestServed : Type 0
EveryRequestServed = (parent : ℕ → ℕ) → Tree parent → (n : ℕ) → 0 < n
    → (ms rs : List Move) (d e f : Directory) → Opening parent d → Run ms d e → AllByRecursion (Within n) ms → Run rs e f → AllByRecursion Serves rs
    → (length rs ≤ n * (2 * n)) × ((a : ℕ) → ¬ (f.place a ≡ idle) → ¬ (f.place a ≡ front) → GoesOn f)
