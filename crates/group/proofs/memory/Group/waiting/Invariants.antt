-- The word of the panels so far. Assumes nothing.
use Rattle.std.proofs.Common.{◌≡◌, map, take}
use Rattle.arrow.specs.Mask.{waiting_word}
use Rattle.panel.specs.Steps.{panel_of}
use Rattle.group.proofs.memory.Group.waiting.Given as goal

abbrev pub invariant-loop-v : goal.invariant-loop-v
invariant-loop-v g l = l.word ≡ waiting_word (map panel_of (take l.v l.panel-items))
