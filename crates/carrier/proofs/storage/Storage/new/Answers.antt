use Rattle.std.proofs.Common.{arith}
use Rattle.std.proofs.lemmas.Bool.Decides.{nat_tests}
use Rattle.carrier.specs.Parcels.{most_lanes}
use Rattle.carrier.specs.Stores.{none_in}
use Rattle.carrier.proofs.storage.Storage.new.Goals as goal

pub returns : goal.returns
returns c =
    let few = c.if-lanes-gt-MOST_LANES.false in
    (grind (arith, nat_tests), none_in c.empty.result c.args.lanes most_lanes c.empty.ensures few)
