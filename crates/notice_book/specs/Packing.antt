-- Bytes into words and back. Assumes nothing.
use Rattle.std.specs.Prelude.{◌≡◌, ℕ, zero, suc, ◌+◌, ◌*◌, ◌/◌, ◌%◌, ◌^◌, ◌<◌, List, [], ◌∷◌, length, slice_index, refl}
use Rattle.std.proofs.Common.{sym, ◌∙◌, arith}
use Rattle.std.specs.List.{AllByRecursion}
use Rattle.notice_book.specs.Bytes.{bytes_of, four_bytes, word_of, words_of}

pub length_bytes : (ws : List ℕ) → length (bytes_of ws) ≡ 4 * length ws
length_bytes [] = refl
length_bytes (w ∷ ws) = omega (arith, length_bytes ws)

-- a byte stands in the word that its place over four names
pub bytes_at : (ws : List ℕ) (k : ℕ) → k < 4 * length ws → slice_index (bytes_of ws) k ≡ slice_index (four_bytes (slice_index ws (k / 4))) (k % 4)
bytes_at [] k h = absurd (omega arith)
bytes_at (w ∷ ws) zero h = refl
bytes_at (w ∷ ws) (suc zero) h = refl
bytes_at (w ∷ ws) (suc (suc zero)) h = refl
bytes_at (w ∷ ws) (suc (suc (suc zero))) h = refl
bytes_at (w ∷ ws) (suc (suc (suc (suc k)))) h =
    let q : suc (suc (suc (suc k))) / 4 ≡ suc (k / 4) = omega arith in
    let r : suc (suc (suc (suc k))) % 4 ≡ k % 4 = omega arith in
    bytes_at ws k (omega arith) ∙ sym ((λ i. slice_index (four_bytes (slice_index (w ∷ ws) (q i))) (r i)))

pub length_words : (bs : List ℕ) → length (words_of bs) ≡ length bs / 4
length_words [] = refl
length_words (a ∷ []) = refl
length_words (a ∷ b ∷ []) = refl
length_words (a ∷ b ∷ c ∷ []) = refl
length_words (a ∷ b ∷ c ∷ d ∷ bs) = omega (arith, length_words bs)

-- a word has the four bytes from four times its place on
pub words_at : (bs : List ℕ) (k : ℕ) → 4 * k + 3 < length bs → slice_index (words_of bs) k ≡ word_of (slice_index bs (4 * k)) (slice_index bs (4 * k + 1)) (slice_index bs (4 * k + 2)) (slice_index bs (4 * k + 3))
words_at [] k h = absurd (omega arith)
words_at (a ∷ []) k h = absurd (omega arith)
words_at (a ∷ b ∷ []) k h = absurd (omega arith)
words_at (a ∷ b ∷ c ∷ []) k h = absurd (omega arith)
words_at (a ∷ b ∷ c ∷ d ∷ bs) zero h = refl
words_at (a ∷ b ∷ c ∷ d ∷ bs) (suc k) h =
    let p : 4 * suc k ≡ suc (suc (suc (suc (4 * k)))) = omega arith in
    let q : 4 * suc k + 1 ≡ suc (suc (suc (suc (4 * k + 1)))) = omega arith in
    let r : 4 * suc k + 2 ≡ suc (suc (suc (suc (4 * k + 2)))) = omega arith in
    let s : 4 * suc k + 3 ≡ suc (suc (suc (suc (4 * k + 3)))) = omega arith in
    words_at bs k (omega arith) ∙ sym (λ i. word_of (slice_index (a ∷ b ∷ c ∷ d ∷ bs) (p i)) (slice_index (a ∷ b ∷ c ∷ d ∷ bs) (q i)) (slice_index (a ∷ b ∷ c ∷ d ∷ bs) (r i)) (slice_index (a ∷ b ∷ c ∷ d ∷ bs) (s i)))

-- the words of the bytes of words are these words
pub words_bytes : (ws : List ℕ) → words_of (bytes_of ws) ≡ ws
words_bytes [] = refl
words_bytes (w ∷ ws) =
    let same : word_of (w / 2 ^ 24) (w / 2 ^ 16 % 2 ^ 8) (w / 2 ^ 8 % 2 ^ 8) (w % 2 ^ 8) ≡ w = omega arith in
    λ i. same i ∷ words_bytes ws i

-- the bytes of the words of bytes, if they fill their words, are these bytes
pub bytes_words : (bs : List ℕ) → length bs % 4 ≡ 0 → AllByRecursion (λ b. b < 256) bs → bytes_of (words_of bs) ≡ bs
bytes_words [] h all = refl
bytes_words (a ∷ []) h all = absurd (omega arith)
bytes_words (a ∷ b ∷ []) h all = absurd (omega arith)
bytes_words (a ∷ b ∷ c ∷ []) h all = absurd (omega arith)
bytes_words (a ∷ b ∷ c ∷ d ∷ bs) h all =
    let b_fits : b < 256 = all.1.0 in
    let c_fits : c < 256 = all.1.1.0 in
    let d_fits : d < 256 = all.1.1.1.0 in
    let p : word_of a b c d / 2 ^ 24 ≡ a = omega arith in
    let q : word_of a b c d / 2 ^ 16 % 2 ^ 8 ≡ b = omega arith in
    let r : word_of a b c d / 2 ^ 8 % 2 ^ 8 ≡ c = omega arith in
    let s : word_of a b c d % 2 ^ 8 ≡ d = omega arith in
    λ i. p i ∷ q i ∷ r i ∷ s i ∷ bytes_words bs (omega arith) all.1.1.1.1 i
