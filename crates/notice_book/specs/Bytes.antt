-- Bytes in words, and the text that a notice's row stands for. Assumes nothing.
use Rattle.std.specs.Prelude.{ℕ, ◌+◌, ◌-◌, ◌*◌, ◌/◌, ◌%◌, ◌^◌, Bool, false, ◌&&◌, List, [], ◌∷◌, ◌++◌, length, take, drop, replicate, ◌==◌, nat_le}
use Rattle.std.specs.List.{flat_map, list_all}

-- the four bytes of a word, bits 31-24 first. (A word has 32 bits, so its highest byte is a quotient.)
abbrev pub four_bytes : ℕ → List ℕ
four_bytes w = w / 2 ^ 24 ∷ w / 2 ^ 16 % 2 ^ 8 ∷ w / 2 ^ 8 % 2 ^ 8 ∷ w % 2 ^ 8 ∷ []

-- the bytes of a list of words
abbrev pub bytes_of : List ℕ → List ℕ
bytes_of ws = flat_map four_bytes ws

-- the word of four bytes
abbrev pub word_of : ℕ → ℕ → ℕ → ℕ → ℕ
word_of a b c d = a * 2 ^ 24 + b * 2 ^ 16 + c * 2 ^ 8 + d

-- the words of a list of bytes, four by four; fewer than four bytes make no word
abbrev pub words_of : List ℕ → List ℕ
words_of [] = []
words_of (a ∷ []) = []
words_of (a ∷ b ∷ []) = []
words_of (a ∷ b ∷ c ∷ []) = []
words_of (a ∷ b ∷ c ∷ d ∷ rest) = word_of a b c d ∷ words_of rest

-- the text of a row: its first word is the length, and the others hold the bytes
abbrev pub text : List ℕ → List ℕ
text [] = []
text (size ∷ words) = take size (bytes_of words)

-- the row of a text: its length, and its bytes with zeros up to 64
abbrev pub row_of : List ℕ → List ℕ
row_of t = length t ∷ words_of (t ++ replicate (64 - length t) 0)

-- a byte that a text may have
abbrev pub printable : ℕ → Bool
printable b = nat_le 32 b && nat_le b 126

-- a byte past the text
abbrev pub blank : ℕ → Bool
blank b = b == 0

-- a row is lawful when it has a length of at most 64 and sixteen words, and every byte before the length is printable, every other 0
abbrev pub notice_lawful : List ℕ → Bool
notice_lawful [] = false
notice_lawful (size ∷ words) = length words == 16 && (nat_le size 64 && (list_all printable (take size (bytes_of words)) && list_all blank (drop size (bytes_of words))))
