-- The text of a row by its words, the row of a text that stands before zeros, and a row by its words. Assumes nothing.
use Rattle.std.specs.Prelude.{◌≡◌, ℕ, zero, suc, ◌+◌, ◌-◌, ◌<◌, ◌≤◌, true, List, [], ◌∷◌, ◌++◌, length, take, drop, replicate, slice_index, refl}
use Rattle.std.proofs.Common.{sym, ap, ◌∙◌, arith, add-one, length-drop}
use Rattle.std.specs.List.{between, list_all}
use Rattle.std.proofs.lemmas.List.{ext_get_or, length-take-le, take-append-drop}
use Rattle.std.proofs.lemmas.Bool.{and_parts, eqb-true}
use Rattle.std.proofs.lemmas.Slice.{first_rest}
use Rattle.notice_book.specs.Bytes.{blank, bytes_of, row_of, text, words_of}
use Rattle.notice_book.specs.Packing.{length_words}

-- the text of a row, by its length word and the bytes of its text words
pub row_text : (row bytes : List ℕ) → 0 < length row → bytes ≡ bytes_of (between 1 (length row) row) → take (slice_index row 0) bytes ≡ text row
row_text row bytes some is = ap (take (slice_index row 0)) is ∙ sym (ap text (first_rest row 0 some))

zeros : (bs : List ℕ) → list_all blank bs ≡ true → bs ≡ replicate (length bs) 0
zeros [] h = refl
zeros (b ∷ bs) h = let p = and_parts (blank b) (list_all blank bs) h in λ i. eqb-true b 0 p.0 i ∷ zeros bs p.1 i

-- the row of the first of 64 bytes, where the others are 0, has these bytes in its words
pub row_before_zeros : (size : ℕ) (bytes : List ℕ) → size ≤ 64 → length bytes ≡ 64 → list_all blank (drop size bytes) ≡ true → row_of (take size bytes) ≡ size ∷ words_of bytes
row_before_zeros size bytes short long h =
    let front : length (take size bytes) ≡ size = length-take-le size bytes (omega arith) in
    let left : 64 - length (take size bytes) ≡ length (drop size bytes) = omega (arith, length-drop size bytes) in
    let whole : take size bytes ++ replicate (64 - length (take size bytes)) 0 ≡ bytes = ap (λ n. take size bytes ++ replicate n 0) left ∙ ap (λ l. take size bytes ++ l) (sym (zeros (drop size bytes) h)) ∙ take-append-drop size bytes in
    λ i. front i ∷ words_of (whole i)

-- a row by its words, one by one
pub row_is : (row bytes : List ℕ) (size : ℕ) → length row ≡ 17 → length bytes ≡ 64 → slice_index row 0 ≡ size → ((j : ℕ) → j < 16 → slice_index row (j + 1) ≡ slice_index (words_of bytes) j) → row ≡ size ∷ words_of bytes
row_is row bytes size long full first others = ext_get_or 0 row (size ∷ words_of bytes) (omega (arith, length_words bytes)) at
  where
    at : (k : ℕ) → k < length row → slice_index row k ≡ slice_index (size ∷ words_of bytes) k
    at zero h = first
    at (suc j) h = rw add-one at (others j (omega arith))
