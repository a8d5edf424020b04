use Rattle.arrow.proofs.Law.{goes_on}
use Rattle.calls.proofs.Carried.{carried_oldest}
use Rattle.calls.proofs.carry.carry_out_oldest.Goals as goal

pub returns-clause-goes : goal.returns-clause-goes
returns-clause-goes g c = goes_on _ _ _ _ (carried_oldest _ c.args.call _ _ _ _ c.perform_oldest.ensures)
