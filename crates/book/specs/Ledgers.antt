-- The ledger: sixteen tenant accounts whose balances add up to 16,000. Assumes nothing.
use Rattle.std.specs.Prelude.{ℕ, ◌+◌, ◌-◌, ◌/◌, ◌%◌, ◌^◌, Bool, cond, ◌&&◌, List, length, replicate, Ok, Err, sum, Result, ◌==◌, nat_lt, slice_index, slice_set}
use Rattle.book.specs.Faults.{by_fault}
use Rattle.book.specs.Kinds.{Book}
use Rattle.book.specs.declared.fault.Fault.{Fault}
use Rattle.book.specs.declared.fault.Fault.TheVariants.{UnknownEntry, SameAccount, BalanceTooLow}
use Rattle.book.specs.declared.ledger.LedgerEntry.{LedgerEntry}
use Rattle.book.specs.declared.ledger.LedgerEntry.TheVariants.{Transfer}

-- the entry that a word stands for: bits 31-28 are 1, 27-24 the paying account, 23-20 the receiving one, 19-0 the amount
abbrev pub ledger_entry : ℕ → Result LedgerEntry Fault
ledger_entry word = cond (word / 2 ^ 28 == 1) (Ok (Transfer (word / 2 ^ 24 % 2 ^ 4) (word / 2 ^ 20 % 2 ^ 4) (word % 2 ^ 20))) (Err UnknownEntry)

-- a row is lawful when it has sixteen words and they add up to 16,000
abbrev pub ledger_lawful : List ℕ → Bool
ledger_lawful row = length row == 16 && sum row == 16000

-- the row with an amount moved from one account to another
abbrev pub moved : List ℕ → ℕ → ℕ → ℕ → List ℕ
moved row payer payee amount = slice_set (slice_set row payer (slice_index row payer - amount)) payee (slice_index row payee + amount)

-- a transfer is refused between equal accounts, and when the paying account has less than the amount
abbrev pub transferred : List ℕ → LedgerEntry → Result (List ℕ) Fault
transferred row (Transfer payer payee amount) = cond (payer == payee) (Err SameAccount) (cond (nat_lt (slice_index row payer) amount) (Err BalanceTooLow) (Ok (moved row payer payee amount)))

-- what the rule makes of a row and what an entry word stands for
abbrev pub ledger_made : List ℕ → Result LedgerEntry Fault → Result (List ℕ) Fault
ledger_made row (Ok entry) = transferred row entry
ledger_made row (Err fault) = Err fault

-- the ledger: every account opens with 1,000
abbrev pub ledger_book : Book
ledger_book = record {
  width = 16;
  lawful = ledger_lawful;
  opening = replicate 16 1000;
  rule = λ row word. by_fault (ledger_made row (ledger_entry word));
}
