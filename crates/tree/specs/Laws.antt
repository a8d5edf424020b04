-- The laws of distances, first steps and lanes, for every lawful tree and all panels that exist.
-- Assumes nothing: each is proved, and named by a contract.
use Rattle.std.specs.Prelude.{◌≡◌, ℕ, ◌+◌, ◌-◌, ◌<◌, ◌≤◌, true, List, [], ◌∷◌, length, ◌≢◌, slice_index}
use Rattle.tree.specs.Tree.{lawful_tree, distance, first_step, neighbours, lane_count, lane_source, lane_target, lane_between}

-- the distance of a and b is the same both ways, 0 exactly where they are equal, and at most n - 1
pub record Measures (ps : List ℕ) (a b : ℕ) : Type 0 where
  pub symmetric : distance ps a b ≡ distance ps b a
  pub zero_if_equal : a ≡ b → distance ps a b ≡ 0
  pub equal_if_zero : distance ps a b ≡ 0 → a ≡ b
  pub at_most : distance ps a b ≤ length ps - 1

-- so it is in every lawful tree
abbrev pub DistanceLaw : Type 0
DistanceLaw =
    (ps : List ℕ) → lawful_tree ps ≡ true → (a b : ℕ) → a < length ps → b < length ps → Measures ps a b

-- exactly one neighbour of u is nearer to a: the first step, by exactly one; every other neighbour is farther by exactly one
pub record Nearer (ps : List ℕ) (u a : ℕ) : Type 0 where
  pub neighbour : neighbours ps u (first_step ps u a) ≡ true
  pub by_one : distance ps (first_step ps u a) a + 1 ≡ distance ps u a
  pub no_other : (x : ℕ) → neighbours ps u x ≡ true → distance ps x a < distance ps u a → x ≡ first_step ps u a
  pub others : (x : ℕ) → neighbours ps u x ≡ true → (x ≢ first_step ps u a) → distance ps x a ≡ distance ps u a + 1

-- so it is in every lawful tree, for u other than a
abbrev pub NearerLaw : Type 0
NearerLaw =
    (ps : List ℕ) → lawful_tree ps ≡ true → (u a : ℕ) → u < length ps → a < length ps → (u ≢ a) → Nearer ps u a

-- a walk from a to b along cables, as the list of its panels: a first, b last, and neighbours next to each other
pub data Walk (ps : List ℕ) : ℕ → ℕ → List ℕ → Type 0 where
  stay : {b : ℕ} → b < length ps → Walk ps b b (b ∷ [])
  go : {a w b : ℕ} {rest : List ℕ} → neighbours ps a w ≡ true → Walk ps w b rest → Walk ps a b (a ∷ rest)

-- no panel stands at two places of the list
abbrev pub RepeatsNone : List ℕ → Type 0
RepeatsNone panels = (i j : ℕ) → i < j → j < length panels → slice_index panels i ≢ slice_index panels j

-- the number of cables that a walk goes along
abbrev pub cables : List ℕ → ℕ
cables panels = length panels - 1

-- a walk that repeats no panel is a path: every path from a to b has as many cables as the distance, and there is one
abbrev pub OnlyPathLaw : Type 0
OnlyPathLaw =
    (ps : List ℕ) → lawful_tree ps ≡ true → (a b : ℕ) → a < length ps → b < length ps
    → ((panels : List ℕ) → Walk ps a b panels → RepeatsNone panels → cables panels ≡ distance ps a b)
    × ((panels : List ℕ) × Walk ps a b panels × RepeatsNone panels)

-- lane k runs between neighbours, and is the lane between them
pub record Runs (ps : List ℕ) (k : ℕ) : Type 0 where
  pub along : neighbours ps (lane_source ps k) (lane_target ps k) ≡ true
  pub only : lane_between ps (lane_source ps k) (lane_target ps k) ≡ k

-- the lane between neighbours w and u is one of the lanes, and runs from w to u
pub record Joins (ps : List ℕ) (w u : ℕ) : Type 0 where
  pub numbered : lane_between ps w u < lane_count ps
  pub source : lane_source ps (lane_between ps w u) ≡ w
  pub target : lane_target ps (lane_between ps w u) ≡ u

-- there is exactly one lane from each panel to each of its neighbours, and there are no others
abbrev pub LaneLaw : Type 0
LaneLaw =
    (ps : List ℕ) → lawful_tree ps ≡ true
    → ((k : ℕ) → k < lane_count ps → Runs ps k) × ((w u : ℕ) → neighbours ps w u ≡ true → Joins ps w u)
