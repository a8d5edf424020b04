-- The length, and behind it the words of all the fours. Assumes nothing.
use Rattle.std.proofs.Common.{◌≡◌, ℕ, zero, suc, ◌*◌, ◌/◌, List, [], ◌∷◌, length, map, refl, arith}
use Rattle.std.proofs.lemmas.List.{take_all}
use Rattle.std.specs.Int.{w32, from_be_bytes}
use Rattle.std.specs.Simd.{first_chunks}
use Rattle.notice_book.specs.Bytes.{word_of, words_of}
use Rattle.notice_book.proofs.text.Text.row.Goals as goal

packed : (n : ℕ) (bs : List ℕ) → length bs ≡ 4 * n → map (from_be_bytes w32) (first_chunks 4 n bs) ≡ words_of bs
packed zero [] h = refl
packed zero (a ∷ bs) h = absurd (omega arith)
packed (suc n) [] h = absurd (omega arith)
packed (suc n) (a ∷ []) h = absurd (omega arith)
packed (suc n) (a ∷ b ∷ []) h = absurd (omega arith)
packed (suc n) (a ∷ b ∷ c ∷ []) h = absurd (omega arith)
packed (suc n) (a ∷ b ∷ c ∷ d ∷ bs) h =
    let same : from_be_bytes w32 (a ∷ b ∷ c ∷ d ∷ []) ≡ word_of a b c d = omega arith in
    λ i. same i ∷ packed n bs (omega arith) i

pub returns-clause-row : goal.returns-clause-row
returns-clause-row c =
    let bytes = c.padded-bytes.result in
    let all = take_all c.loop-four.four-index c.as_chunks.result.0.now c.loop-four-test.false in
    let fours = packed (length bytes / 4) bytes (omega arith) in
    cc (c.loop-four.invariant.0, c.as_chunks.ensures.front)
