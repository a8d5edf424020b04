-- The space has the page so far, and its other words stay. Assumes nothing.
use Rattle.std.proofs.Common.{◌≡◌, ◌++◌, take, drop}
use Rattle.book.specs.Pages.{page}
use Rattle.book.proofs.page.write_page.Given as goal

abbrev pub invariant-loop-entry : goal.invariant-loop-entry
invariant-loop-entry g l = let b = g.K.Kind.book l.kind in l.space ≡ page b (take l.entry-index l.entries) ++ drop l.width l.initial.space
