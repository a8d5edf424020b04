use Rattle.std.proofs.Common.{[]}
use Rattle.arrow.proofs.Law.{law_over_runs}
use Rattle.calls.proofs.Lists.{reached_more}
use Rattle.calls.proofs.list.run.Goals as goal

pub loop-call-init : goal.loop-call-init
loop-call-init g c = record { history = []; made = tt; run = c.new-group.ensures.begins; clauses = law_over_runs [] _ c.new-group.ensures.begins }

pub loop-call-preserved : goal.loop-call-preserved
loop-call-preserved g c =
    reached_more c.args.calls.now c.loop-call.call-index _ c.loop-call.spare c.carry_out.new.spare _ _ _ c.loop-call-test.true c.carry_out.auto.spare
    c.carry_out.ensures.goes c.loop-call.invariant
