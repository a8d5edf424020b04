use Rattle.std.proofs.Common.{arith}
use Rattle.carrier.specs.Queues.{pushed_is}
use Rattle.carrier.proofs.storage.Queue.push.Goals as goal

pub returns : goal.returns
returns c = (omega arith, pushed_is c.args.self.now c.args.packet (omega arith))
