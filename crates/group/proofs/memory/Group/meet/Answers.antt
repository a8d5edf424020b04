use Rattle.std.proofs.Common.{arith}
use Rattle.panel.proofs.Steps.{short_ok, short_err}
use Rattle.panel.specs.Steps.{panel_of}
use Rattle.group.specs.Whole.{whole}
use Rattle.group.proofs.Steps.{met}
use Rattle.group.proofs.memory.Group.meet.Goals as goal

pub returns-in_err-action : goal.returns-in_err-action
returns-in_err-action g c =
    absurd (short_err (panel_of c.standing-before.result) c.args.ends.from c.args.ends.at c.args.message c.args.body.now _ _ c.requires.short c.in_err-action.ensures)

pub returns : goal.returns
returns g c =
    let plain = short_ok (panel_of c.standing-before.result) c.args.ends.from c.args.ends.at c.args.message c.args.body.now _ _ c.requires.short c.in_ok-action.ensures in
    let by_rule = met (whole g.C.Carrier.lanes g.K.Kind.book c.args.self.now) c.args.ends.from c.args.ends.at c.args.body.now c.args.message in
    grind (arith, plain, by_rule)
