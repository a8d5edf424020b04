-- An open group has a panel, and a run begins at a new group. Assumes nothing.
use Rattle.std.proofs.Common.{◌≡◌, ltb, [], length, Some, None, Option, sym, refl, subst, arith}
use Rattle.std.proofs.lemmas.Bool.Decides.{nat_tests}
use Rattle.std.specs.Option.{is_some}
use Rattle.book.specs.Kinds.{Book, Sound}
use Rattle.carrier.specs.Parcels.{Lanes}
use Rattle.tree.specs.Answers.{parents}
use Rattle.tree.proofs.Facts.{parents_lawful, some_panel}
use Rattle.arrow.specs.Runs.{Run, new}
use Rattle.arrow.specs.World.{World, new_world}
use Rattle.group.specs.declared.memory.Panels.{Panels}
use Rattle.group.specs.Memory.{tree_of}

-- an open group has a panel
pub open_has_panels : (panels : Option Panels) → is_some panels ≡ ltb 0 (length (tree_of panels))
open_has_panels None = refl
open_has_panels (Some p) = (let h = some_panel (parents p.tree) (parents_lawful p.tree) in grind (arith, nat_tests))

-- a group that was just made
pub begins : (w : World) (kind : Book) (lanes : Lanes) → Sound kind → w ≡ new_world kind lanes → Run [] w
begins w kind lanes sound is = subst (λ (w' : World). Run [] w') (sym is) (new kind sound lanes)
