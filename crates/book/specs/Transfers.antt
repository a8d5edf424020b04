-- What the ledger's rule means. Assumes nothing.
use Rattle.std.specs.Prelude.{◌≡◌, ℕ, ◌+◌, ◌<◌, ◌≤◌, true, List, length, Ok, sum, ◌≢◌, slice_index, slice_index_or}
use Rattle.book.specs.Ledgers.{ledger_book, ledger_entry, ledger_lawful}
use Rattle.book.specs.declared.ledger.LedgerEntry.TheVariants.{Transfer}

-- no account has more than the total
abbrev pub Few : List ℕ → Type 0
Few row = (k : ℕ) → k < length row → slice_index row k ≤ 16000

-- from a row to the next: one account loses the amount, another gains it, every other account and the sum stay
pub record Pays (row new : List ℕ) (payer payee amount : ℕ) : Type 0 where
  pub apart : payer ≡ payee → ⊥
  pub loses : slice_index_or new payer 0 + amount ≡ slice_index row payer
  pub gains : slice_index_or new payee 0 ≡ slice_index row payee + amount
  pub others : (k : ℕ) → (k ≢ payer) → (k ≢ payee) → slice_index new k ≡ slice_index row k
  pub same_sum : sum new ≡ sum row

-- every entry that the ledger accepts is a transfer, and does just that
abbrev pub AcceptedEntriesPay : Type 0
AcceptedEntriesPay = (row new : List ℕ) (word : ℕ) → ledger_lawful row ≡ true → ledger_book.rule row word ≡ Ok new
    → (payer : ℕ) × (payee : ℕ) × (amount : ℕ) × (ledger_entry word ≡ Ok (Transfer payer payee amount)) × Pays row new payer payee amount
