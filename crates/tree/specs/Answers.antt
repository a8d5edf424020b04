-- What the calls on a tree answer, over its list of parents. A refusal is the first that applies.
-- Assumes nothing.
use Rattle.std.specs.Prelude.{◌≡◌, ℕ, true, false, cond, ◌&&◌, List, take, Ok, Err, Result, ◌==◌, nat_lt}
use Rattle.words.specs.declared.refusal.Refusal.{Refusal}
use Rattle.words.specs.declared.refusal.Refusal.TheVariants.{UnlawfulTree, NoSuchPanel, NoSuchLane}
use Rattle.tree.specs.declared.cables.Tree.{Tree}
use Rattle.tree.specs.Tree.{lawful_tree, exists, neighbours, distance, first_step, lane_count, lane_between, lane_source, lane_target}

-- the meaning of a tree: its list of parents
abbrev pub parents : Tree → List ℕ
parents t = take t.count t.entries

-- a tree made of a list: the tree of exactly that list, or UnlawfulTree
abbrev pub MadeOf : List ℕ → Result Tree Refusal → Type 0
MadeOf ps (Ok t) = (lawful_tree ps ≡ true) × (parents t ≡ ps)
MadeOf ps (Err e) = (lawful_tree ps ≡ false) × (e ≡ UnlawfulTree)

-- the answer, or NoSuchPanel where a panel does not exist
abbrev pub of_panels : {X : Type 0} → List ℕ → ℕ → ℕ → Result X Refusal → Result X Refusal
of_panels ps a b answer = cond (exists ps a && exists ps b) answer (Err NoSuchPanel)

-- the distance of two panels
abbrev pub distance_answer : List ℕ → ℕ → ℕ → Result ℕ Refusal
distance_answer ps a b = of_panels ps a b (Ok (distance ps a b))

-- the first step from panel u to panel a
abbrev pub first_step_answer : List ℕ → ℕ → ℕ → Result ℕ Refusal
first_step_answer ps u a = of_panels ps u a (Ok (first_step ps u a))

-- a lane between panel v and its parent; panel 0 has no parent, so no such lane
abbrev pub panel_lane : List ℕ → ℕ → ℕ → Result ℕ Refusal
panel_lane ps v lane = cond (exists ps v) (cond (v == 0) (Err NoSuchLane) (Ok lane)) (Err NoSuchPanel)

-- the lane from panel w to panel u, which have to be neighbours
abbrev pub lane_answer : List ℕ → ℕ → ℕ → Result ℕ Refusal
lane_answer ps w u = of_panels ps w u (cond (neighbours ps w u) (Ok (lane_between ps w u)) (Err NoSuchLane))

-- the panels that lane k comes from and goes to
abbrev pub ends_answer : List ℕ → ℕ → Result (ℕ × ℕ) Refusal
ends_answer ps k = cond (nat_lt k (lane_count ps)) (Ok (lane_source ps k, lane_target ps k)) (Err NoSuchLane)
