use Rattle.std.proofs.Common.{sym, refl}
use Rattle.carrier.specs.Queues.{held_is}
use Rattle.carrier.proofs.storage.Queue.held.Goals as goal

pub returns : goal.returns
returns c = record { waiting = sym (held_is c.args.self.now); slots = refl }
