-- The arrow directory of one book: what it holds, its moves, and its runs. Panels are numbers. Assumes nothing.
-- Only requests and arrows are here, and not what the book holds or what waits on the lanes.
use Rattle.std.specs.Prelude.{◌≡◌, ℕ, ◌<◌, List, [], ◌∷◌}

-- the place of a panel's request in the directory
pub data Place : Type 0 where
  -- there is none
  idle : Place
  -- flying w u: its find is on its way from panel w to its neighbour u
  flying : ℕ → ℕ → Place
  -- after p: its find has landed at panel p, which hands the book on to it
  after : ℕ → Place
  -- it has the book, or the book is on its way to it
  front : Place

-- each panel's arrow, which points to the panel itself or to a neighbour, and the place of each panel's request
pub record Directory : Type 0 where
  pub arrow : ℕ → ℕ
  pub place : ℕ → Place

-- f' is x at i, and f elsewhere
pub record Becomes {A : Type 0} (f : ℕ → A) (i : ℕ) (x : A) (f' : ℕ → A) : Type 0 where
  pub there : f' i ≡ x
  pub elsewhere : (j : ℕ) → ¬ (j ≡ i) → f' j ≡ f j

-- v asks: its find leaves along its arrow, and the arrow turns to v itself
pub record Requests (v : ℕ) (d d' : Directory) : Type 0 where
  pub was_idle : d.place v ≡ idle
  pub turns : Becomes d.arrow v v d'.arrow
  pub moves : Becomes d.place v (flying v (d.arrow v)) d'.place

-- the find of a comes from w to u, whose arrow points on: it goes along that arrow, which turns to w
pub record Passes (a w u : ℕ) (d d' : Directory) : Type 0 where
  pub comes : d.place a ≡ flying w u
  pub goes_on : ¬ (d.arrow u ≡ u)
  pub turns : Becomes d.arrow u w d'.arrow
  pub moves : Becomes d.place a (flying u (d.arrow u)) d'.place

-- the find of a comes from w to u, whose arrow is u itself: a becomes the follower of u, and the arrow turns to w
pub record Lands (a w u : ℕ) (d d' : Directory) : Type 0 where
  pub comes : d.place a ≡ flying w u
  pub ends : d.arrow u ≡ u
  pub turns : Becomes d.arrow u w d'.arrow
  pub moves : Becomes d.place a (after u) d'.place

-- v, in front, hands the book on to its follower f
pub record HandsOn (v f : ℕ) (d d' : Directory) : Type 0 where
  pub was_front : d.place v ≡ front
  pub follows : d.place f ≡ after v
  pub arrows : (u : ℕ) → d'.arrow u ≡ d.arrow u
  pub leaves : d'.place v ≡ idle
  pub gets : d'.place f ≡ front
  pub others : (b : ℕ) → ¬ (b ≡ v) → ¬ (b ≡ f) → d'.place b ≡ d.place b

-- the find of a comes to u, which rests with the book: it lands, and u hands the book on to it at once
pub record LandsAtRest (a w u : ℕ) (d d' : Directory) : Type 0 where
  pub comes : d.place a ≡ flying w u
  pub ends : d.arrow u ≡ u
  pub was_front : d.place u ≡ front
  pub turns : Becomes d.arrow u w d'.arrow
  pub leaves : d'.place u ≡ idle
  pub gets : d'.place a ≡ front
  pub others : (b : ℕ) → ¬ (b ≡ u) → ¬ (b ≡ a) → d'.place b ≡ d.place b

-- the moves of a directory (to land where the book rests is to land, and then to hand on)
pub data Move : Type 0 where
  -- request v: panel v asks
  request : ℕ → Move
  -- pass a w u and land a w u: the find of a, from w, passes or lands at u
  pass land : ℕ → ℕ → ℕ → Move
  -- hand_on v f: v hands the book on to f
  hand_on : ℕ → ℕ → Move

-- the move leads from the first directory to the second
abbrev pub Does : Move → Directory → Directory → Type 0
Does (request v) = Requests v
Does (pass a w u) = Passes a w u
Does (land a w u) = Lands a w u
Does (hand_on v f) = HandsOn v f

-- a list of moves, one after the other, leads from the first directory to the second
pub data Run : List Move → Directory → Directory → Type 0 where
  empty : {d : Directory} → Run [] d d
  more : {m : Move} {ms : List Move} {d e f : Directory} → Does m d e → Run ms e f → Run (m ∷ ms) d f

-- a tree of panels: every panel but 0 has a parent with a smaller number
abbrev pub Tree : (ℕ → ℕ) → Type 0
Tree parent = (v : ℕ) → 0 < v → parent v < v

-- at first every arrow points to the parent, and panel 0's to itself; panel 0 has the book, and the others are idle
pub record Opening (parent : ℕ → ℕ) (d : Directory) : Type 0 where
  pub root : d.arrow 0 ≡ 0
  pub arrows : (v : ℕ) → 0 < v → d.arrow v ≡ parent v
  pub book : d.place 0 ≡ front
  pub others : (v : ℕ) → 0 < v → d.place v ≡ idle
