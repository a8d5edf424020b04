-- The coupling of a world and a directory: what ties the panels, the lanes, the page and the counts of an open group to the queue of
-- requests. Definitions only. Assumes nothing.
use Rattle.std.proofs.Common.{◌≡◌, ℕ, ◌+◌, ◌-◌, ◌*◌, ◌<◌, ◌≤◌, true, false, cond, eqb, List, length, replicate, Some, None, Ok, Option}
use Rattle.book.specs.Kinds.{Book, Sound as SoundKind}
use Rattle.carrier.specs.Parcels.{Parcel, waiting}
use Rattle.directory.specs.Cables.{Wired}
use Rattle.directory.specs.Directory.{Directory, Place, idle, flying, after, front}
use Rattle.directory.specs.Queue.{Sound}
use Rattle.directory.proofs.Sums.{total}
use Rattle.tree.specs.Tree.{lawful_tree, neighbours, distance, first_step, lane_count, lane_source, lane_target}
use Rattle.arrow.specs.declared.counts.Counts.{Counts}
use Rattle.arrow.specs.declared.state.State.{State}
use Rattle.arrow.specs.declared.state.State.TheVariants.{Idle, Waiting, Holding, Resting}
use Rattle.arrow.specs.World.{Panel, World, panel_at}
use Rattle.arrow.specs.Rules.{has_book, request_limit}
use Rattle.arrow.specs.Clauses.{MakesOf}
use Rattle.arrow.proofs.Arrangement.{LaneHas}
use Rattle.arrow.proofs.Heads.{book_parcel}
use Rattle.arrow.proofs.Tied.{Tied}

-- THE QUEUE. A cable joins two panels.
abbrev pub Joined : List ℕ → ℕ → ℕ → Type 0
Joined ps u v = neighbours ps u v ≡ true

-- a find under way comes from the first step back to its asker
abbrev pub Aimed : List ℕ → ℕ → Place → Type 0
Aimed ps a idle = Unit {0}
Aimed ps a (flying w u) = first_step ps u a ≡ w
Aimed ps a (after p) = Unit {0}
Aimed ps a front = Unit {0}

pub record Queue (ps : List ℕ) (home : ℕ) (d : Directory) : Type 0 where
  pub sound : Sound d
  pub wired : Wired (length ps) (Joined ps) d
  pub aimed : (a : ℕ) → Aimed ps a (d.place a)
  pub home_front : d.place home ≡ front

-- THE PANELS. What a panel is about, by the place of its request; the book may be under way on a lane.
abbrev pub Fits : Option ℕ → Place → State → Type 0
Fits carried idle s = s ≡ Idle
Fits carried (flying w u) s = s ≡ Waiting
Fits carried (after p) s = s ≡ Waiting
Fits None front s = has_book s ≡ true
Fits (Some lane) front s = s ≡ Waiting

-- a resting panel has no follower; a panel without the book has a row of zeros
pub record Plain (width : ℕ) (p : Panel) : Type 0 where
  pub alone : p.state ≡ Resting → p.follower ≡ None
  pub bare : has_book p.state ≡ false → p.row ≡ replicate width 0

pub record PanelsFit (ps : List ℕ) (width : ℕ) (carried : Option ℕ) (d : Directory) (panel : ℕ → Panel) : Type 0 where
  pub arrows : (v : ℕ) → (panel v).arrow ≡ d.arrow v
  pub fits : (v : ℕ) → Fits carried (d.place v) (panel v).state
  pub plain : (v : ℕ) → v < length ps → Plain width (panel v)
  -- the follower of v is the panel whose request has landed there
  pub followers : Tied (length ps) after (λ v. (panel v).follower) d.place

-- THE LANES. The find on a lane is that of the panel whose place is there; `finder` names it for each lane.
abbrev pub lane_slot : List ℕ → ℕ → Place
lane_slot ps k = flying (lane_source ps k) (lane_target ps k)

-- the book on a lane: this parcel on the lane where the book is under way, none elsewhere
abbrev pub book_on : Option ℕ → Parcel → ℕ → Option Parcel
book_on None parcel k = None
book_on (Some lane) parcel k = cond (eqb k lane) (Some parcel) None

pub record LanesFit (ps : List ℕ) (place : ℕ → Place) (finder : ℕ → Option ℕ) (books : ℕ → Option Parcel) (lane : ℕ → List Parcel)
    : Type 0 where
  pub finders : Tied (lane_count ps) (lane_slot ps) finder place
  pub parcels : (k : ℕ) → k < lane_count ps → LaneHas (finder k) (books k) (lane k)

-- THE BOOK. Its page is lawful, the row of the panel that has it, and what the accepted writes make of the opening row.
pub record PageFits (ps : List ℕ) (kind : Book) (home : ℕ) (carried : Option ℕ) (page : List ℕ) (panel : ℕ → Panel) (writes : List ℕ)
    : Type 0 where
  pub kept : carried ≡ None → (panel home).row ≡ page
  pub on_lane : (k : ℕ) → carried ≡ Some k → k < lane_count ps
  pub lawful : kind.lawful page ≡ true
  pub made : MakesOf kind (Ok kind.opening) writes page

-- how far the book still has to go
abbrev pub remaining : List ℕ → ℕ → Option ℕ → ℕ
remaining ps home None = 0
remaining ps home (Some lane) = distance ps home (lane_target ps lane)

-- THE COUNTS. What each panel adds: 1 if it waits or holds; 1 if it waits; how far its find has come; how far it may still come;
-- and the most steps that a book to it will take, for each request that the book was not sent to yet.
abbrev pub busy : ℕ → State → ℕ
busy v Idle = 0
busy v Waiting = 1
busy v Holding = 1
busy v Resting = 0

abbrev pub waits : ℕ → State → ℕ
waits v Idle = 0
waits v Waiting = 1
waits v Holding = 0
waits v Resting = 0

-- the longest distance
abbrev pub farthest : ℕ
farthest = 31

abbrev pub flown : List ℕ → ℕ → Place → ℕ
flown ps a idle = 0
flown ps a (flying w u) = distance ps a u
flown ps a (after p) = 0
flown ps a front = 0

abbrev pub unflown : List ℕ → ℕ → Place → ℕ
unflown ps a idle = 0
unflown ps a (flying w u) = farthest - distance ps a u
unflown ps a (after p) = 0
unflown ps a front = 0

abbrev pub owed : ℕ → Place → ℕ
owed a idle = 0
owed a (flying w u) = farthest
owed a (after p) = farthest
owed a front = 0

-- the counts, the distances of the landed requests, and those five added up over the panels, with what the book has still to go
pub record Tally (c : Counts) (landed busy_sum waits_sum flown_sum unflown_sum owed_sum to_go : ℕ) : Type 0 where
  pub asked : c.requests ≡ c.releases + busy_sum
  pub granted : c.requests ≡ c.grants + waits_sum
  pub found : c.finds ≡ landed + flown_sum
  pub few_finds : c.finds + unflown_sum ≤ farthest * c.requests
  pub few_books : c.books + (owed_sum + to_go) ≤ farthest * c.requests
  pub few_requests : c.requests ≤ request_limit

abbrev pub Tallied : List ℕ → (ℕ → Place) → (ℕ → Panel) → ℕ → Counts → ℕ → Type 0
Tallied ps place panel to_go c landed =
    Tally c landed
    (total (λ v. busy v (panel v).state) (length ps)) (total (λ v. waits v (panel v).state) (length ps))
    (total (λ a. flown ps a (place a)) (length ps)) (total (λ a. unflown ps a (place a)) (length ps))
    (total (λ a. owed a (place a)) (length ps)) to_go

-- The coupling: a directory, the find on each lane, the panel in front, the lane on which the book is under way if it is, and the page.
pub record Coupled (ps : List ℕ) (kind : Book) (panel : ℕ → Panel) (lane : ℕ → List Parcel) (c : Counts) (landed : ℕ) (writes : List ℕ)
    : Type 0 where
  pub d : Directory
  pub finder : ℕ → Option ℕ
  pub home : ℕ
  pub carried : Option ℕ
  pub page : List ℕ
  pub queue : Queue ps home d
  pub panels : PanelsFit ps kind.width carried d panel
  pub lanes : LanesFit ps d.place finder (book_on carried (book_parcel home page)) lane
  pub book : PageFits ps kind home carried page panel writes
  pub tally : Tallied ps d.place panel (remaining ps home carried) c landed

-- the world of an open group
pub record Opened (landed : ℕ) (writes : List ℕ) (w : World) : Type 0 where
  pub tree : lawful_tree w.tree ≡ true
  pub kind : SoundKind w.kind
  pub panels : length w.panels ≡ length w.tree
  pub lanes : lane_count w.tree ≤ length w.lanes
  pub coupled : Coupled w.tree w.kind (panel_at w) (waiting w.lanes) w.counts landed writes
