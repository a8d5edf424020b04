-- Rule numbers. Assumes nothing.
use Rattle.std.specs.Prelude.{◌≡◌, ℕ, ◌<◌, ◌≤◌, List, Ok, Err, Result}
use mathlib.Core.HLevel.{is_prop→PathP}
use Rattle.std.proofs.Math.Bridge.{le_prop}
use Rattle.std.proofs.Common.{lit≤}
use Rattle.words.specs.declared.rule_number.RuleNumber.{RuleNumber}
use Rattle.book.specs.Faults.{by_fault, fault_number}
use Rattle.book.specs.declared.fault.Fault.{Fault}
use Rattle.book.specs.declared.fault.Fault.TheVariants.{UnknownEntry, SameAccount, BalanceTooLow, TextFull, NoSuchPlace, BadByte}

-- two rule numbers of one value are one
pub same_number : (m n : RuleNumber) → m.value ≡ n.value → m ≡ n
same_number m n e = λ i. record { value = e i; lawful = is_prop→PathP (λ j. 0 < e j) (λ j. le_prop) m.lawful n.lawful i }

pub fault_le : (f : Fault) → fault_number f ≤ 255
fault_le UnknownEntry = lit≤ tt
fault_le SameAccount = lit≤ tt
fault_le BalanceTooLow = lit≤ tt
fault_le TextFull = lit≤ tt
fault_le NoSuchPlace = lit≤ tt
fault_le BadByte = lit≤ tt

-- a row that a rule made is no refusal
pub by_fault_ok : (v : Result (List ℕ) Fault) (new : List ℕ) → by_fault v ≡ Ok new → v ≡ Ok new
by_fault_ok (Ok row) new e = cc
by_fault_ok (Err f) new e = cc
