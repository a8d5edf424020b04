-- The greatest of the distances from the panels, in their order.
use Rattle.std.proofs.Common.{rules}
use Rattle.tree.specs.Answers.{parents}
use Rattle.layout.specs.Tables.{farthest_from}
use Rattle.layout.proofs.Tables.{greatest_found}
use Rattle.layout.proofs.table.Table.farthest.Goals as goal

pub returns : goal.returns
returns c =
    greatest_found _ (farthest_from (parents c.args.self.now.0.now)) _ _ _ _ c.max.ensures.ran c.map.ensures.source c.map.ensures.closure
    (λ x m q k. search rules) c.unwrap_or.ensures c.panels.ensures.answer
