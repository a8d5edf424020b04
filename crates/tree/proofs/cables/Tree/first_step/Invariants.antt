-- The invariant and the measure of the loop. Assumes nothing.
use Rattle.std.proofs.Common.{◌≡◌}
use Rattle.tree.specs.Tree.{first_step}
use Rattle.tree.specs.Answers.{parents}
use Rattle.tree.proofs.cables.Tree.first_step.Given as goal

-- the first step towards the panel that the loop has climbed to is the one that is looked for
abbrev pub invariant-loop-goal : goal.invariant-loop-goal
invariant-loop-goal l = first_step (parents l.self) l.from l.goal ≡ first_step (parents l.self) l.from l.to

abbrev pub decreases-loop-goal : goal.decreases-loop-goal
decreases-loop-goal l = l.goal
