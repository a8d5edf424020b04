use Rattle.arrow.proofs.Law.{goes_on}
use Rattle.calls.proofs.Carried.{carried}
use Rattle.calls.proofs.carry.carry_out.Goals as goal

pub returns-clause-goes : goal.returns-clause-goes
returns-clause-goes g c = goes_on _ _ _ _ (carried _ c.args.call _ _ _ _ c.perform.ensures)
