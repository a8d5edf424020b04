-- Bytes cut at the first place of a byte, and bytes in which it does not stand. Assumes nothing.
use Rattle.std.proofs.Common.{◌≡◌, ℕ, zero, suc, ◌<◌, List, [], ◌∷◌, length, get_or, take, drop, refl, arith}
use Rattle.std.proofs.lemmas.Bool.Decides.{nat_tests}
use Rattle.text.specs.Pieces.{cut_at}

-- the byte stands at none of the first n places
abbrev pub NoneBefore : ℕ → List ℕ → ℕ → Type 0
NoneBefore byte bs n = (k : ℕ) → k < n → get_or bs k 0 ≡ byte → ⊥

module _ (byte : ℕ) where
  -- bytes in which it does not stand are one piece
  pub cut_whole : (bs : List ℕ) → NoneBefore byte bs (length bs) → cut_at byte ([] ∷ []) bs ≡ bs ∷ []
  cut_whole [] none = refl
  cut_whole (b ∷ bs) none =
      let other = none 0 (omega arith) in
      let rest = cut_whole bs (λ k h. none (suc k) (omega arith)) in
      grind (arith, nat_tests)

  -- the same where the empty rest gives nothing, unless there are no bytes
  pub cut_last : (b : ℕ) (bs : List ℕ) → NoneBefore byte (b ∷ bs) (length (b ∷ bs)) → cut_at byte [] (b ∷ bs) ≡ (b ∷ bs) ∷ []
  cut_last b [] none = let other = none 0 (omega arith) in grind (arith, nat_tests)
  cut_last b (next ∷ bs) none =
      let other = none 0 (omega arith) in
      let rest = cut_last next bs (λ k h. none (suc k) (omega arith)) in
      grind (arith, nat_tests)

  -- else the first piece ends where the byte first stands, and the others are those of what follows it
  pub cut_first : (end : List (List ℕ)) (bs : List ℕ) (n : ℕ) → n < length bs → NoneBefore byte bs n → get_or bs n 0 ≡ byte
      → cut_at byte end bs ≡ take n bs ∷ cut_at byte end (drop (suc n) bs)
  cut_first end [] n h none here = absurd (omega arith)
  cut_first end (b ∷ bs) zero h none here = grind (arith, nat_tests)
  cut_first end (b ∷ bs) (suc n) h none here =
      let other = none 0 (omega arith) in
      let rest = cut_first end bs n (omega arith) (λ k i. none (suc k) (omega arith)) here in
      grind (arith, nat_tests)
