-- The greatest of the distances to the panels, in their order.
use Rattle.std.proofs.Common.{rules}
use Rattle.tree.specs.Answers.{parents}
use Rattle.tree.specs.Tree.{distance}
use Rattle.layout.proofs.Tables.{greatest_found}
use Rattle.layout.proofs.table.Row.farthest.Goals as goal

pub returns : goal.returns
returns c =
    greatest_found _ (distance (parents c.args.self.now.tree.now) c.args.self.now.panel) _ _ _ _ c.max.ensures.ran c.map.ensures.source c.map.ensures.closure
    (λ x m q k. search rules) c.unwrap_or.ensures c.panels.ensures.answer
