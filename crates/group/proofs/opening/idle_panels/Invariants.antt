-- The panels so far have the parents so far. Assumes nothing.
use Rattle.std.proofs.Common.{◌≡◌, map, length, take}
use Rattle.tree.specs.Answers.{parents}
use Rattle.tree.specs.Tree.{most_panels}
use Rattle.group.specs.Parts.{idle_with}
use Rattle.panel.specs.Steps.{panel_of, row_words}
use Rattle.group.proofs.opening.idle_panels.Given as goal

abbrev pub invariant-loop-v : goal.invariant-loop-v
invariant-loop-v l =
    (length l.panels ≡ most_panels)
    × (map panel_of (take l.v l.panels) ≡ map (idle_with (row_words l.idle.row)) (take l.v (parents l.tree)))
