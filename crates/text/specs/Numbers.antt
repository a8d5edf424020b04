-- Numbers as a line has them, in bytes. Assumes nothing.
use Rattle.std.specs.Prelude.{ℕ, ◌+◌, ◌-◌, ◌*◌, Bool, cond, ◌&&◌, List, length, Ok, Err, fold, Result, nat_le}
use Rattle.std.specs.List.{list_all}
use Rattle.words.specs.declared.refusal.Refusal.{Refusal}
use Rattle.words.specs.declared.refusal.Refusal.TheVariants.{BadLine}

-- a byte that is a decimal digit
abbrev pub is_digit : ℕ → Bool
is_digit b = nat_le 48 b && nat_le b 57

-- every byte is a decimal digit
abbrev pub all_digits : List ℕ → Bool
all_digits bs = list_all is_digit bs

-- the number that a run of decimal digits stands for, the highest digit first
abbrev pub decimal_value : List ℕ → ℕ
decimal_value bs = fold (λ n b. n * 10 + (b - 48)) 0 bs

-- a number is 1 to 6 decimal digits
abbrev pub number_of : List ℕ → Result ℕ Refusal
number_of bs = cond (nat_le 1 (length bs) && (nat_le (length bs) 6 && all_digits bs)) (Ok (decimal_value bs)) (Err BadLine)
