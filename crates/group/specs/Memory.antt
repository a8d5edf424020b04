-- What an open group has in memory, read. Assumes nothing.
use Rattle.std.specs.Prelude.{ℕ, List, [], length, map, take, Some, None, Option}
use Rattle.tree.specs.Answers.{parents}
use Rattle.arrow.specs.World.{Panel}
use Rattle.panel.specs.Steps.{panel_of}
use Rattle.group.specs.declared.memory.Panels.{Panels}

-- the parents of the panels, none while the group is not open
abbrev pub tree_of : Option Panels → List ℕ
tree_of None = []
tree_of (Some panels) = parents panels.tree

-- the panels, none while the group is not open
abbrev pub panels_of : Option Panels → List Panel
panels_of None = []
panels_of (Some panels) = map panel_of (take (length (parents panels.tree)) panels.each)
