-- The sum so far, and that it is small. Assumes nothing.
use Rattle.std.proofs.Common.{◌≡◌, ◌*◌, ◌≤◌, take, sum}
use Rattle.book.proofs.ledger.is_lawful.Given as goal

abbrev pub invariant-loop-balance : goal.invariant-loop-balance
invariant-loop-balance l = (l.total ≡ sum (take l.balance-index l.row)) × (l.total ≤ 4294967295 * l.balance-index)
