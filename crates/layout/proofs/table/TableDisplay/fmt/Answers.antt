-- One row more.
use Rattle.std.proofs.Common.{rules, refl, []}
use Rattle.std.proofs.Output.{has_written_of_eq, has_written_append}
use Rattle.tree.specs.Answers.{parents}
use Rattle.layout.specs.Tables.{heading, row}
use Rattle.layout.proofs.Tables.{one_more}
use Rattle.layout.proofs.table.TableDisplay.fmt.Goals as goal

pub loop-panel-preserved : goal.loop-panel-preserved
loop-panel-preserved g c = λ p.
    let far = c.loop-panel.invariant p in
    has_written_of_eq _ _ _ _ _
    (one_more (heading (parents c.args.self.now.0.now)) [] (row (parents c.args.self.now.0.now)) c.loop-panel.panel _ (search rules))
    (has_written_append _ _ _ _ _ _ far (c.in_ok-write.ensures.writes far.plain refl))
