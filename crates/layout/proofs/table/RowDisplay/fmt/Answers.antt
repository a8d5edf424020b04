-- A cell is a space and the distance in two places.
use Rattle.std.proofs.Common.{refl, ap, ◌∷◌, []}
use Rattle.std.proofs.Output.{has_written_of_eq, has_written_append}
use Rattle.tree.specs.Answers.{parents}
use Rattle.layout.specs.Tables.{two_places, cell}
use Rattle.layout.proofs.Tables.{one_more}
use Rattle.layout.proofs.table.RowDisplay.fmt.Goals as goal

pub loop-to-preserved : goal.loop-to-preserved
loop-to-preserved g c = λ p.
    let far = c.loop-to.invariant p in
    has_written_of_eq _ _ _ _ _
    (one_more (two_places c.args.self.now.panel) (58 ∷ []) (cell (parents c.args.self.now.tree.now) c.args.self.now.panel) c.loop-to.to _
    (ap (λ n. 32 ∷ two_places n) c.steps.ensures))
    (has_written_append _ _ _ _ _ _ far (c.in_ok-write-2.ensures.writes far.plain refl))
