use Rattle.std.proofs.Common.{◌≡◌, List, length, set, replicate, Some, None, ap, ◌∙◌, rules}
use Rattle.arrow.specs.declared.state.State.TheVariants.{Resting}
use Rattle.arrow.specs.Rules.{opening_panels}
use Rattle.arrow.specs.World.{Panel}
use Rattle.tree.specs.Answers.{parents}
use Rattle.tree.proofs.Facts.{parents_lawful, some_panel}
use Rattle.group.specs.Memory.{panels_of}
use Rattle.group.specs.Whole.{whole}
use Rattle.panel.specs.Steps.{row_words}
use Rattle.group.proofs.Openings.{opening_is}
use Rattle.group.proofs.memory.Group.settle.Goals as goal

pub returns : goal.returns
returns g c =
    let w = whole g.C.Carrier.lanes g.K.Kind.book c.args.self.now in
    let sound = g.met.K.Kind.sound c.args.self.now.kind in
    let ps = parents c.args.tree in
    let some = some_panel ps (parents_lawful c.args.tree) in
    let cleared = c.cleared.ensures ∙ ap (λ n. replicate n 0) (ap length c.requires ∙ sound.long w.kind.opening sound.opens) in
    let same : panels_of (Some c.store.new.self) ≡ opening_panels w ps =
    c.store.ensures.each
    ∙ ap (λ (l : List Panel). set l 0 (record { arrow = 0; state = Resting; follower = None; row = row_words c.args.row })) c.idle_panels-each.ensures.front
    ∙ opening_is w ps (row_words c.args.row) (row_words c.cleared.result) some c.requires cleared in
    search rules
