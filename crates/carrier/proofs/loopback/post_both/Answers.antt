use Rattle.std.proofs.Common.{◌≡◌, None, arith}
use Rattle.std.proofs.lemmas.Bool.Decides.{nat_tests}
use Rattle.carrier.specs.Loopback.{loopback_refusal}
use Rattle.carrier.proofs.Loops.{filled}
use Rattle.carrier.proofs.loopback.post_both.Goals as goal

pub returns : goal.returns
returns g c =
    let lanes = g.C.Carrier.lanes c.args.carrier.now in
    let told = c.in_ok-count.ensures in
    let free : loopback_refusal lanes c.args.lane ≡ None = grind (arith, nat_tests) in
    filled lanes c.args.lane (g.C.Carrier.lanes c.post.new.self) (g.C.Carrier.lanes c.post-2.new.self) c.args.first.now c.args.second.now c.body.result.now c.body-2.result.now c.post-2.result free c.body.ensures.whole c.in_ok-post.ensures.1 c.body-2.ensures.whole c.post-2.ensures
