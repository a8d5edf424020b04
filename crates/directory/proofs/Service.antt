-- Every request is served: moves other than requests come to an end, and as long as some panel waits, one can be made.
-- Assumes nothing.
use Rattle.std.proofs.Common.{arith}
use Rattle.directory.specs.Law.{EveryRequestServed}
use Rattle.directory.proofs.Measure.{run_serves, total_weight_bound}
use Rattle.directory.proofs.Opening.{opening_sound}
use Rattle.directory.proofs.Progress.{goes_on}
use Rattle.directory.proofs.Runs.{run_sound}
use Rattle.directory.proofs.Trees.{tree_opening, run_wired}

pub every_request_served : EveryRequestServed
every_request_served parent tree n 0<n ms rs d e f o run all run' all' =
    let s = opening_sound tree o in
    let wired = run_wired n s (tree_opening tree 0<n o) all run in (
      omega (arith, run_serves tree n (run_sound s run) wired all' run', total_weight_bound tree n 0<n wired),
      goes_on (run_sound (run_sound s run) run'),
    )
