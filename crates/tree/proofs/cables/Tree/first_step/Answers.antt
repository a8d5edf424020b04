-- The law of the nearer neighbour, which each return states. Assumes nothing.
use Rattle.tree.proofs.Laws.{nearer_law}
use Rattle.tree.proofs.cables.Tree.first_step.Goals as goal

pub returns-in_err-check-clause-nearer : goal.returns-in_err-check-clause-nearer
returns-in_err-check-clause-nearer c = nearer_law

pub returns-in_err-check-2-clause-nearer : goal.returns-in_err-check-2-clause-nearer
returns-in_err-check-2-clause-nearer c = nearer_law

pub returns-then-above-from-clause-nearer : goal.returns-then-above-from-clause-nearer
returns-then-above-from-clause-nearer c = nearer_law

pub returns-then-from-goal-clause-nearer : goal.returns-then-from-goal-clause-nearer
returns-then-from-goal-clause-nearer c = nearer_law

pub returns-else-from-goal-clause-nearer : goal.returns-else-from-goal-clause-nearer
returns-else-from-goal-clause-nearer c = nearer_law
