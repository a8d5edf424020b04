-- Worked examples of the rules of both kinds. Assumes nothing.
use Rattle.std.specs.Prelude.{◌≡◌, ℕ, List, ◌∷◌, replicate, Ok, Err, Result}
use Rattle.words.specs.declared.rule_number.RuleNumber.{RuleNumber}
use Rattle.book.specs.Kinds.{Book}
use Rattle.book.specs.Ledgers.{ledger_book}
use Rattle.notice_book.specs.Notices.{notice_book}

-- what a rule made, a refusal by its number
abbrev pub numbered : Result (List ℕ) RuleNumber → Result (List ℕ) ℕ
numbered (Ok new) = Ok new
numbered (Err n) = Err n.value

-- what the rule of a book makes of the opening row and an entry
abbrev pub first_entry : Book → ℕ → Result (List ℕ) ℕ
first_entry b word = numbered (b.rule b.opening word)

-- on the opening ledger a transfer of 1,000 from account 0 to account 1 leaves 0 and 2,000, and one of 1,001 is refused with 15;
-- on the opening notice an insert of 41 (hexadecimal) at place 0 gives length 1 and text word 41000000, and one at place 1 is refused with 17
pub record WorkedExamples : Type 0 where
  pub paid : first_entry ledger_book 0x101003e8 ≡ Ok (0 ∷ 2000 ∷ replicate 14 1000)
  pub unpaid : first_entry ledger_book 0x101003e9 ≡ Err 15
  pub put : first_entry notice_book 0x20000041 ≡ Ok (1 ∷ 0x41000000 ∷ replicate 15 0)
  pub misplaced : first_entry notice_book 0x20100041 ≡ Err 17
