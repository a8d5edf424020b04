-- The ledger's rule keeps rows lawful, and what it means. Assumes nothing.
use Rattle.std.specs.Prelude.{◌≡◌, ℕ, ◌/◌, ◌^◌, ◌<◌, ◌≤◌, true, ◌≢◌, List, length, Ok, Err, sum, Result, ◌==◌, nat_lt, slice_index, refl}
use Rattle.std.proofs.Common.{subst, ◌∙◌, arith, lit≤, length-set, get_or-set_same, get_or-set_other}
use Rattle.std.proofs.lemmas.List.Sums.{sum_by-set, get_or-le-sum_by}
use Rattle.std.proofs.lemmas.Bool.{eqb-false, ltb-false, cond_both}
use Rattle.std.proofs.lemmas.Bool.Decides.{nat_tests}
use Rattle.book.specs.Numbers.{by_fault_ok, fault_le}
use Rattle.book.specs.Faults.{by_fault}
use Rattle.book.specs.Kinds.{Kept, Sound}
use Rattle.book.specs.Ledgers.{ledger_book, ledger_entry, ledger_lawful, ledger_made, moved, transferred}
use Rattle.book.specs.Transfers.{AcceptedEntriesPay, Few, Pays}
use Rattle.book.specs.declared.fault.Fault.{Fault}
use Rattle.book.specs.declared.ledger.LedgerEntry.{LedgerEntry}
use Rattle.book.specs.declared.ledger.LedgerEntry.TheVariants.{Transfer}

pub lawful_parts : (row : List ℕ) → ledger_lawful row ≡ true → (length row ≡ 16) × (sum row ≡ 16000)
lawful_parts row h = (grind (arith, nat_tests), grind (arith, nat_tests))

pub lawful_from : (row : List ℕ) → length row ≡ 16 → sum row ≡ 16000 → ledger_lawful row ≡ true
lawful_from row l s = grind (arith, nat_tests)

-- no account of a lawful row has more than the total
pub lawful_few : (row : List ℕ) → ledger_lawful row ≡ true → Few row
lawful_few row h k within = let p = lawful_parts row h in omega (arith, get_or-le-sum_by (λ x. x) row k 0 within)

-- a move between two accounts is a payment
pub moved_pays : (row : List ℕ) (payer payee amount : ℕ) → payer < length row → payee < length row → payer ≢ payee → amount ≤ slice_index row payer → Pays row (moved row payer payee amount) payer payee amount
moved_pays row payer payee amount pays receives apart enough = record {
  apart = apart;
  loses = grind (arith, length-set, get_or-set_same, get_or-set_other);
  gains = grind (arith, length-set, get_or-set_same, get_or-set_other);
  others = λ k p q. grind (arith, get_or-set_other);
  same_sum = grind (arith, length-set, sum_by-set, get_or-set_same, get_or-set_other);
}

-- what a lawful row and an entry come to: a payment within the row, or a refusal
abbrev Made : List ℕ → Result LedgerEntry Fault → Result (List ℕ) Fault → Type 0
Made row entry (Ok new) = (payer : ℕ) × (payee : ℕ) × (amount : ℕ) × (entry ≡ Ok (Transfer payer payee amount)) × Pays row new payer payee amount × (length new ≡ 16)
Made row entry (Err f) = Unit {0}

transfer_made : (row : List ℕ) (payer payee amount : ℕ) → ledger_lawful row ≡ true → payer < 16 → payee < 16 → Made row (Ok (Transfer payer payee amount)) (transferred row (Transfer payer payee amount))
transfer_made row payer payee amount h p q =
    let long = (lawful_parts row h).0 in
    cond_both (payer == payee) _ _ (Made row (Ok (Transfer payer payee amount))) (λ _. tt) λ apart.
    cond_both (nat_lt (slice_index row payer) amount) _ _ (Made row (Ok (Transfer payer payee amount))) (λ _. tt) λ enough.
    (payer, payee, amount, refl, moved_pays row payer payee amount (omega arith) (omega arith) (eqb-false payer payee apart) (ltb-false _ _ enough), simp length-set long)

made : (row : List ℕ) (word : ℕ) → ledger_lawful row ≡ true → Made row (ledger_entry word) (ledger_made row (ledger_entry word))
made row word h = cond_both (word / 2 ^ 28 == 1) _ _ (λ e. Made row e (ledger_made row e)) (λ _. transfer_made row _ _ _ h (omega arith) (omega arith)) (λ _. tt)

kept : (row : List ℕ) (entry : Result LedgerEntry Fault) (v : Result (List ℕ) Fault) → ledger_lawful row ≡ true → Made row entry v → Kept ledger_book (by_fault v)
kept row entry (Ok new) h m = lawful_from new m.5 (m.4.same_sum ∙ (lawful_parts row h).1)
kept row entry (Err f) h m = fault_le f

pub ledger_sound : Sound ledger_book
ledger_sound = record {
  narrow = lit≤ tt;
  long = λ row h. (lawful_parts row h).0;
  opens = refl;
  keeps = λ row word h. kept row (ledger_entry word) (ledger_made row (ledger_entry word)) h (made row word h);
}

pay : (row new : List ℕ) (entry : Result LedgerEntry Fault) (v : Result (List ℕ) Fault) → Made row entry v → v ≡ Ok new → (payer : ℕ) × (payee : ℕ) × (amount : ℕ) × (entry ≡ Ok (Transfer payer payee amount)) × Pays row new payer payee amount
pay row new entry v m e = let n = subst (Made row entry) e m in (n.0, n.1, n.2, n.3, n.4)

pub accepted_entries_pay : AcceptedEntriesPay
accepted_entries_pay row new word h e = pay row new (ledger_entry word) (ledger_made row (ledger_entry word)) (made row word h) (by_fault_ok _ new e)
