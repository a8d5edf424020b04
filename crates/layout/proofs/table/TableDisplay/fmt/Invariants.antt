-- The heading and the rows so far are written.
use Rattle.std.proofs.Common.{◌++◌}
use Rattle.std.specs.Fmt.{HasWritten, IsPlainFormatter}
use Rattle.tree.specs.Answers.{parents}
use Rattle.layout.specs.Tables.{heading, texts, row}
use Rattle.layout.proofs.table.TableDisplay.fmt.Given as goal

abbrev pub invariant-loop-panel : goal.invariant-loop-panel
invariant-loop-panel g l =
    IsPlainFormatter l.fn.f
    → HasWritten g.W.Write.write_str_gives l.fn.f (heading (parents l.self.0.now) ++ texts (row (parents l.self.0.now)) 0 l.panel) l.f
