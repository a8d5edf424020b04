use Rattle.std.proofs.Common.{◌<◌, ◌≤◌, ◌∙◌, length, rules}
use Rattle.std.proofs.lemmas.Iterator.{first_from_Range}
use Rattle.std.proofs.lemmas.Bool.Decides.{nat_tests}
use Rattle.carrier.proofs.Waits.{first_past}
use Rattle.carrier.proofs.traits.Carrier.lane_count.Goals as goal

pub returns : goal.returns
returns g c =
    let lanes = g.Self.Carrier.lanes c.args.self.now in
    c.unwrap_or.ensures ∙ first_past (length lanes) c.find.result (g.met.Self.Carrier.few c.args.self.now) (first_from_Range _ _ _ c.find.result (λ k. length lanes ≤ k) (λ k. k < length lanes) c.find.ensures.ran (λ x q k. search (rules, nat_tests)) (λ x q k. search (rules, nat_tests)))
