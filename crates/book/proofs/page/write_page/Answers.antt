-- One entry more, and the page is lawful. Assumes nothing.
use Rattle.std.proofs.Common.{◌-◌, get_or, take}
use Rattle.book.specs.Kinds.{applied}
use Rattle.book.proofs.Answered.{Says}
use Rattle.book.proofs.Pages.{page_lawful, page_more}
use Rattle.book.proofs.page.write_page.Goals as goal

pub returns-in_err-opening-clause-lawful : goal.returns-in_err-opening-clause-lawful
returns-in_err-opening-clause-lawful g c = page_lawful (g.K.Kind.book c.args.kind.now) (g.met.K.Kind.sound c.args.kind.now) c.args.entries.now

pub loop-entry-preserved : goal.loop-entry-preserved
loop-entry-preserved g c =
    let row = take (c.width-width.result - 0) c.loop-entry.space in
    let told : Says row c.apply.new.row c.apply.result (applied (g.K.Kind.book c.args.kind.now) row (get_or c.args.entries.now c.loop-entry.entry-index 0)) = search in
    page_more (g.K.Kind.book c.args.kind.now) (g.met.K.Kind.sound c.args.kind.now) c.args.entries.now c.opening.new.space c.loop-entry.space c.apply.new.row
    c.loop-entry.entry-index c.width-width.result c.apply.result c.width-width.ensures c.loop-entry-test.true c.loop-entry.invariant told

pub returns-clause-lawful : goal.returns-clause-lawful
returns-clause-lawful g c = page_lawful (g.K.Kind.book c.args.kind.now) (g.met.K.Kind.sound c.args.kind.now) c.args.entries.now
