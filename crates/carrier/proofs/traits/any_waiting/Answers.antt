use Rattle.std.proofs.Common.{sym, arith, rules, below_more}
use Rattle.std.proofs.lemmas.Bool.Decides.{nat_tests}
use Rattle.carrier.proofs.traits.any_waiting.Goals as goal
use Rattle.carrier.proofs.Waits.{some_waits, none_waits}

pub returns-in-Ok : goal.returns-in-Ok
returns-in-Ok g c = sym (some_waits (g.C.Carrier.lanes c.args.carrier.now) c.loop-lane.lane (search rules))

pub returns-in-Err : goal.returns-in-Err
returns-in-Err g c = sym (none_waits _ (λ k l. c.loop-lane.invariant.1 k (grind (arith, nat_tests, c.in-Err.ensures))))

pub loop-lane-preserved : goal.loop-lane-preserved
loop-lane-preserved g c = (grind (arith, nat_tests), below_more _ _ c.loop-lane.invariant.1 (search rules))

pub returns : goal.returns
returns g c =
    let few = g.met.C.Carrier.few c.args.carrier.now in
    sym (none_waits _ (λ k l. c.loop-lane.invariant.1 k (omega arith)))
