use Rattle.std.proofs.Common.{◌≡◌, ℕ, ◌<◌, ◌≤◌, length}
use Rattle.carrier.specs.Parcels.{waiting}
use Rattle.carrier.proofs.traits.any_waiting.Given as goal

-- nothing waits on the lanes that were counted
abbrev pub invariant-loop-lane : goal.invariant-loop-lane
invariant-loop-lane g l =
    let lanes = g.C.Carrier.lanes l.carrier in
    (l.lane ≤ length lanes) × ((k : ℕ) → k < l.lane → length (waiting lanes k) ≡ 0)
