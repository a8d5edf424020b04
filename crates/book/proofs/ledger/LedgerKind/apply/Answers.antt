-- The call's answer, and what its rule means. Assumes nothing.
use Rattle.book.specs.LedgersLemmas.{accepted_entries_pay}
use Rattle.book.proofs.ledger.LedgerKind.apply.Goals as goal

pub returns : goal.returns
returns c = record { answer = c.write.ensures; pays = accepted_entries_pay }
