-- The panels in memory: how many there are, and one stored at its place. Assumes nothing.
use Rattle.std.proofs.Common.{◌≡◌, ℕ, ◌≤◌, leb, false, List, length, map, take, set, Some, None, Option, refl, ap, ◌∙◌, arith}
use lib.Seq.{take-set-lt}
use Rattle.std.proofs.lemmas.List.{length-map, length-take-le, map-set}
use Rattle.std.proofs.lemmas.Bool.{leb-false}
use Rattle.tree.specs.Tree.{most_panels}
use Rattle.tree.specs.Answers.{parents}
use Rattle.tree.proofs.Facts.{parents_lawful, few_panels}
use Rattle.panel.specs.declared.record.Panel.{Panel as PanelRecord}
use Rattle.panel.specs.Steps.{panel_of}
use Rattle.group.specs.declared.memory.Panels.{Panels}
use Rattle.group.specs.Memory.{tree_of, panels_of}

-- a group has at most 32 panels
pub few : (panels : Option Panels) → length (tree_of panels) ≤ most_panels
few None = omega arith
few (Some panels) = few_panels (parents panels.tree) (parents_lawful panels.tree)

-- as many panels as the tree has
pub panels_long : (panels : Option Panels) → length (panels_of panels) ≡ length (tree_of panels)
panels_long None = refl
panels_long (Some panels) =
    let n = length (parents panels.tree) in
    let b = few (Some panels) in
    length-map (take n panels.each) panel_of ∙ length-take-le n panels.each (omega (arith, panels.long, b))

-- a panel stored at its place
pub stored_at : (n : ℕ) (panels : List PanelRecord) (v : ℕ) (p : PanelRecord) → leb n v ≡ false
    → map panel_of (take n (set panels v p)) ≡ set (map panel_of (take n panels)) v (panel_of p)
stored_at n panels v p e = ap (map panel_of) (take-set-lt n panels v p (leb-false n v e)) ∙ map-set panel_of (take n panels) v p
