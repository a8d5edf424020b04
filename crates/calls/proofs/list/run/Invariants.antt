-- The calls so far are a run. Assumes nothing.
use Rattle.std.proofs.Common.{length, take}
use Rattle.calls.specs.Called.{ReachedBy}
use Rattle.group.specs.Whole.{whole}
use Rattle.calls.proofs.list.run.Given as goal

abbrev pub invariant-loop-call : goal.invariant-loop-call
invariant-loop-call g l = ReachedBy (length l.spare) (take l.call-index l.calls) (whole g.C.Carrier.lanes g.K.Kind.book l.group)
