use Rattle.std.proofs.Common.{◌-◌, take, rules, arith}
use Rattle.std.proofs.lemmas.Slice.{overwrites}
use Rattle.carrier.specs.Stored.{place_of}
use Rattle.carrier.proofs.Queues.{take_at}
use Rattle.carrier.proofs.storage.Storage.take.Goals as goal

pub returns : goal.returns
returns c =
    let told = take_at (take (c.args.self.now.count - 0) c.args.self.now.queues) _ _ c.pull.new.self (place_of c.args.end) c.args.space.now c.pull.result c.pull.new.space c.pull.ensures c.args.lane (omega arith) (omega arith) c.if-space-lt-ENOUGH_SPACE.false in
    search (rules, overwrites, told)
