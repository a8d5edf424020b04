-- What a group means: the world that the rules speak of. Assumes nothing.
use Rattle.book.specs.Kinds.{Book}
use Rattle.carrier.specs.Parcels.{Lanes}
use Rattle.arrow.specs.World.{World}
use Rattle.group.specs.declared.memory.Group.{Group}
use Rattle.group.specs.Memory.{tree_of, panels_of}

-- the world of a group, over what its carrier and its kind mean
abbrev pub whole : {C K : Type 0} → (C → Lanes) → (K → Book) → Group C K → World
whole lanes book group = record {
  kind = book group.kind;
  tree = tree_of group.core.panels;
  panels = panels_of group.core.panels;
  counts = group.core.counts;
  lanes = lanes group.carrier;
}
