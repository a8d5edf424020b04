-- The number of every refusal that a rule of these kinds gives, in one definition. Assumes nothing.
use Rattle.std.specs.Prelude.{ℕ, ◌<◌, List, Ok, Err, Result}
use Rattle.std.proofs.Common.{lit<}
use Rattle.words.specs.declared.rule_number.RuleNumber.{RuleNumber}
use Rattle.book.specs.declared.fault.Fault.{Fault}
use Rattle.book.specs.declared.fault.Fault.TheVariants.{UnknownEntry, SameAccount, BalanceTooLow, TextFull, NoSuchPlace, BadByte}

-- the number that a rule refuses an entry with
abbrev pub fault_number : Fault → ℕ
fault_number UnknownEntry = 13
fault_number SameAccount = 14
fault_number BalanceTooLow = 15
fault_number TextFull = 16
fault_number NoSuchPlace = 17
fault_number BadByte = 18

pub fault_positive : (f : Fault) → 0 < fault_number f
fault_positive UnknownEntry = lit< tt
fault_positive SameAccount = lit< tt
fault_positive BalanceTooLow = lit< tt
fault_positive TextFull = lit< tt
fault_positive NoSuchPlace = lit< tt
fault_positive BadByte = lit< tt

-- the same number, as a refusal carries it
abbrev pub rule_number : Fault → RuleNumber
rule_number f = record { value = fault_number f; lawful = fault_positive f }

-- what a rule made, its refusal by number
abbrev pub by_fault : Result (List ℕ) Fault → Result (List ℕ) RuleNumber
by_fault (Ok new) = Ok new
by_fault (Err f) = Err (rule_number f)
