use Rattle.std.proofs.Common.{◌≡◌, ◌<◌, map, length, take, sym, ap, ◌∙◌, arith, length-set}
use lib.Seq.{take-length}
use Rattle.tree.specs.Answers.{parents}
use Rattle.group.specs.Parts.{idle_with}
use Rattle.panel.specs.Steps.{panel_of, row_words}
use Rattle.group.proofs.Openings.{idle_more}
use Rattle.group.proofs.opening.idle_panels.Goals as goal

pub loop-v-preserved : goal.loop-v-preserved
loop-v-preserved c =
    let row = row_words c.args.row in
    let ps = parents c.args.tree.now in
    let v = c.loop-v.v in
    let panels = c.loop-v.panels in
    let count = c.panels-v-end.ensures in
    let long = c.loop-v.invariant.0 in
    let test = c.loop-v-test.true in
    let below : v < length ps = omega arith in
    let within : v < length panels = omega arith in
    (simp length-set long, idle_more row panels ps v _ within below c.loop-v.invariant.1 (ap (idle_with row) c.parent.ensures))

pub returns : goal.returns
returns c =
    let row = row_words c.args.row in
    let ps = parents c.args.tree.now in
    let v = c.loop-v.v in
    let count = c.panels-v-end.ensures in
    let test = c.loop-v-test.false in
    let kept = c.loop-v.auto in
    let all : length ps ≡ v = omega arith in
    record {
      front = ap (λ k. map panel_of (take k c.loop-v.panels)) all ∙ c.loop-v.invariant.1 ∙ ap (λ k. map (idle_with row) (take k ps)) (sym all) ∙ ap (map (idle_with row)) (take-length ps);
      long = c.loop-v.invariant.0;
    }
