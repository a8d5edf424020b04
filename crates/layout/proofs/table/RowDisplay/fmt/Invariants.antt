-- The number of the panel and the cells so far are written.
use Rattle.std.proofs.Common.{◌++◌, ◌∷◌}
use Rattle.std.specs.Fmt.{HasWritten, IsPlainFormatter}
use Rattle.tree.specs.Answers.{parents}
use Rattle.layout.specs.Tables.{two_places, texts, cell}
use Rattle.layout.proofs.table.RowDisplay.fmt.Given as goal

abbrev pub invariant-loop-to : goal.invariant-loop-to
invariant-loop-to g l =
    IsPlainFormatter l.fn.f
    → HasWritten g.W.Write.write_str_gives l.fn.f (two_places l.self.panel ++ (58 ∷ texts (cell (parents l.self.tree.now) l.self.panel) 0 l.to)) l.f
