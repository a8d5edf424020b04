use Rattle.carrier.specs.Stored.{parcel_of}
use Rattle.carrier.proofs.Loops.{not_both, first_free, second_free, emptied_again}
use Rattle.carrier.proofs.loopback.loopback.Goals as goal

pub returns-in_err-take_packet : goal.returns-in_err-take_packet
returns-in_err-take_packet g c =
    let told = c.in_ok-post_both.ensures in
    let free = first_free (g.C.Carrier.lanes c.args.carrier.now) c.args.lane (parcel_of c.args.first.now) (parcel_of c.args.second.now) (g.C.Carrier.lanes c.post_both.new.carrier) told.0 told.1 in
    absurd (not_both free c.in_err-take_packet.ensures.0)

pub returns-in_err-take_packet-2 : goal.returns-in_err-take_packet-2
returns-in_err-take_packet-2 g c =
    let told = c.in_ok-post_both.ensures in
    let free = second_free (g.C.Carrier.lanes c.args.carrier.now) c.args.lane (parcel_of c.args.first.now) (parcel_of c.args.second.now) (g.C.Carrier.lanes c.post_both.new.carrier) told.0 told.1 (g.C.Carrier.lanes c.take_packet.new.carrier) c.in_ok-take_packet.field-0 c.in_ok-take_packet.ensures in
    absurd (not_both free c.in_err-take_packet-2.ensures.0)

pub returns : goal.returns
returns g c =
    let told = c.in_ok-post_both.ensures in
    let back = emptied_again (g.C.Carrier.lanes c.args.carrier.now) c.args.lane (parcel_of c.args.first.now) (parcel_of c.args.second.now) (g.C.Carrier.lanes c.post_both.new.carrier) told.0 told.1 (g.C.Carrier.lanes c.take_packet.new.carrier) (g.C.Carrier.lanes c.take_packet-2.new.carrier) (g.C.Carrier.lanes c.take_packet-3.new.carrier) c.in_ok-take_packet.field-0 c.in_ok-take_packet-2.field-0 c.take_packet-3.result c.in_ok-take_packet.ensures c.in_ok-take_packet-2.ensures c.take_packet-3.ensures in
    (told.0, back.0, back.1, back.2)
