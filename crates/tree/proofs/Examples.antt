-- Worked values, by computing. Assumes nothing.
use Rattle.std.proofs.Common.{◌≡◌, true, false, [], ◌∷◌, refl}
use Rattle.tree.specs.Tree.{lawful_tree, distance, first_step, lane_between}

pub tree_0011_lawful : lawful_tree (0 ∷ 0 ∷ 1 ∷ 1 ∷ []) ≡ true
unfolding lawful_tree
tree_0011_lawful = refl

pub tree_01_unlawful : lawful_tree (0 ∷ 1 ∷ []) ≡ false
unfolding lawful_tree
tree_01_unlawful = refl

pub tree_0011_distance : distance (0 ∷ 0 ∷ 1 ∷ 1 ∷ []) 2 3 ≡ 2
unfolding distance
tree_0011_distance = refl

pub tree_0011_first_step : first_step (0 ∷ 0 ∷ 1 ∷ 1 ∷ []) 0 3 ≡ 1
unfolding first_step
tree_0011_first_step = refl

pub tree_0011_lane : lane_between (0 ∷ 0 ∷ 1 ∷ 1 ∷ []) 1 3 ≡ 5
unfolding lane_between
tree_0011_lane = refl
