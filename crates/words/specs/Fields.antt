-- How the bits of a word are shared out among its fields. Assumes nothing.
use Rattle.std.specs.Prelude.{ℕ, ◌+◌, ◌*◌, ◌/◌, ◌%◌, ◌^◌, Bool, ◌==◌, nat_lt}

-- the kind of a word, in bits 31 to 28
abbrev pub tag : ℕ → ℕ
tag w = w / 2 ^ 28

-- what stands below the kind, in bits 27 to 0
abbrev pub below_tag : ℕ → ℕ
below_tag w = w % 2 ^ 28

-- the three fields of an event word, five bits each
abbrev pub field_a : ℕ → ℕ
field_a w = w / 2 ^ 23 % 2 ^ 5

abbrev pub field_b : ℕ → ℕ
field_b w = w / 2 ^ 18 % 2 ^ 5

abbrev pub field_c : ℕ → ℕ
field_c w = w / 2 ^ 13 % 2 ^ 5

-- what stands below the three fields, in bits 12 to 0
abbrev pub below_fields : ℕ → ℕ
below_fields w = w % 2 ^ 13

-- a field that fits its five bits
abbrev pub fits : ℕ → Bool
fits x = nat_lt x 32

-- a field that is not used
abbrev pub unused : ℕ → Bool
unused x = x == 0

-- the word with these fields, all lower bits zero
abbrev pub packed : ℕ → ℕ → ℕ → ℕ → ℕ
packed kind a b c = kind * 2 ^ 28 + a * 2 ^ 23 + b * 2 ^ 18 + c * 2 ^ 13
