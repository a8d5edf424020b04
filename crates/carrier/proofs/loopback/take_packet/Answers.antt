use Rattle.std.proofs.Common.{arith}
use Rattle.carrier.specs.Parcels.{waiting, at_place}
use Rattle.carrier.proofs.Loops.{read_back}
use Rattle.carrier.proofs.loopback.take_packet.Goals as goal

pub returns : goal.returns
returns g c =
    let told = c.in_ok-received.ensures in
    let place = told.0 in
    let gave = told.1.1 in
    let parcel = at_place (waiting (g.C.Carrier.lanes c.args.carrier.now) c.args.lane) place in
    (told.1.0, (place, gave.within, read_back parcel _ _ _ _ (omega (arith, gave.head_is)) gave.size_is gave.space_is, told.1.2))
