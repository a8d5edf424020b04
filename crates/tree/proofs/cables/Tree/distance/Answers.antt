-- The law of paths, which each return states. Assumes nothing.
use Rattle.tree.proofs.Laws.{only_path_law}
use Rattle.tree.proofs.cables.Tree.distance.Goals as goal

pub returns-in_err-check-clause-only_path : goal.returns-in_err-check-clause-only_path
returns-in_err-check-clause-only_path c = only_path_law

pub returns-in_err-check-2-clause-only_path : goal.returns-in_err-check-2-clause-only_path
returns-in_err-check-2-clause-only_path c = only_path_law

pub returns-clause-only_path : goal.returns-clause-only_path
returns-clause-only_path c = only_path_law
