-- The list of parents has as many entries as the count says, and is lawful. Assumes nothing.
use Rattle.std.proofs.Common.{◌≡◌, length, arith}
use Rattle.std.proofs.lemmas.List.{length-take-le}
use Rattle.tree.specs.Answers.{parents}
use Rattle.tree.proofs.Facts.{some_panel}
use Rattle.tree.proofs.cables.Tree.panels.Goals as goal

pub returns-clause-within : goal.returns-clause-within
returns-clause-within c =
    let size : length (parents c.args.self.now) ≡ c.args.self.now.count = length-take-le c.args.self.now.count c.args.self.now.entries (omega arith) in
    omega (arith, some_panel (parents c.args.self.now) c.args.self.now.lawful)
