use Rattle.words.proofs.Events.{are_made}
use Rattle.words.proofs.event.Event.read.Goals as goal

pub returns-clause-law : goal.returns-clause-law
returns-clause-law c = are_made
