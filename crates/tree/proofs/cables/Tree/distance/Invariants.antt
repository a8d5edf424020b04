-- The invariant and the measure of the loop. Assumes nothing.
use Rattle.std.proofs.Common.{◌≡◌, ◌+◌, ◌≤◌}
use Rattle.tree.specs.Tree.{distance}
use Rattle.tree.specs.Answers.{parents}
use Rattle.tree.proofs.cables.Tree.distance.Given as goal

-- the cables so far and those that are left make up the distance, and each has lowered the two panels
abbrev pub invariant-loop-left : goal.invariant-loop-left
invariant-loop-left l =
    (l.cables + distance (parents l.self) l.left l.right ≡ distance (parents l.self) l.a l.b)
    × (l.cables + (l.left + l.right) ≤ l.a + l.b)

abbrev pub decreases-loop-left : goal.decreases-loop-left
decreases-loop-left l = l.left + l.right
