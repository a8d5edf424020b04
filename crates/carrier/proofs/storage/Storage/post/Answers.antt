use Rattle.std.proofs.Common.{◌-◌, take, rules, arith}
use Rattle.std.proofs.lemmas.Slice.{overwrites}
use Rattle.carrier.specs.Stored.{parcel_of}
use Rattle.carrier.proofs.Queues.{post_at}
use Rattle.carrier.proofs.storage.Storage.post.Goals as goal

pub returns : goal.returns
returns c =
    let made = c.in_ok-packet.ensures in
    let told = post_at (take (c.args.self.now.count - 0) c.args.self.now.queues) _ _ c.push.new.self c.args.head c.args.body.now (parcel_of c.in_ok-packet.packet) c.push.result c.push.ensures c.args.lane (omega arith) (omega arith) made.0 made.1 in
    search (rules, overwrites, told)
