use Rattle.std.proofs.Common.{rules}
use Rattle.group.proofs.Opened.{begins}
use Rattle.group.proofs.memory.Group.new.Goals as goal

pub returns-clause-begins : goal.returns-clause-begins
returns-clause-begins g c = begins _ (g.K.Kind.book c.args.kind) (g.C.Carrier.lanes c.args.carrier) (g.met.K.Kind.sound c.args.kind) (search rules)
