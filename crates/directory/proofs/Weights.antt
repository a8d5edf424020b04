-- How far a request still is from its book, as a number that each move but a request lowers: a find goes up the tree, to
-- smaller numbers, and then down, to larger ones, and never turns back. Assumes nothing.
use Rattle.std.proofs.Common.{◌≡◌, ℕ, suc, ◌+◌, ◌-◌, ◌*◌, ◌<◌, ◌≤◌, cond, ltb, ◌⊎◌, sym, ◌∙◌, inl, inr, arith}
use Rattle.std.proofs.lemmas.Bool.{lt-ltb, le-ltb, cond-true, cond-false}
use Rattle.directory.specs.Directory.{Place, idle, flying, after, front, Tree}
use Rattle.directory.proofs.Trees.{Joined}

-- 0 for who does not wait, and 1 for a follower; for a find on its way up more than n, less the smaller the number of the panel
-- that it comes to, and on its way down at most n, less the larger that number
abbrev pub weight : ℕ → Place → ℕ
weight n idle = 0
weight n (flying w u) = cond (ltb u w) (suc (n + u)) (suc (n - u))
weight n (after p) = 1
weight n front = 0

up : (n : ℕ) {w u : ℕ} → u < w → weight n (flying w u) ≡ suc (n + u)
up n {w} {u} l = cond-true (ltb u w) (suc (n + u)) (suc (n - u)) (lt-ltb u w l)

down : (n : ℕ) {w u : ℕ} → w < u → weight n (flying w u) ≡ suc (n - u)
down n {w} {u} l = cond-false (ltb u w) (suc (n + u)) (suc (n - u)) (le-ltb u w (omega arith))

module _ {parent : ℕ → ℕ} (tree : Tree parent) (n : ℕ) where
  -- a find goes up to a parent, or down to a child
  direction : (w u : ℕ) → Joined parent n w u → ((u < w) × (weight n (flying w u) ≡ suc (n + u))) ⊎ ((w ≡ parent u) × (w < u) × (weight n (flying w u) ≡ suc (n - u)))
  direction w u c = elim c.2 [
    | inl k ↦ (let l : u < w = omega (arith, tree w k.0) in inl (l, up n l))
    | inr k ↦ (let l : w < u = omega (arith, tree u k.0) in inr (k.1, l, down n l))
  ]

  -- a find under way weighs more than a follower, and at most twice the number of panels
  pub find_weight_bounds : (w u : ℕ) → Joined parent n w u → (1 < weight n (flying w u)) × (weight n (flying w u) ≤ 2 * n)
  find_weight_bounds w u c = elim (direction w u c) [ inl k ↦ omega arith | inr k ↦ omega arith ]

  -- a find that goes on and does not turn back gets lighter
  pub find_weight_falls : (w u x : ℕ) → Joined parent n w u → Joined parent n u x → ¬ (x ≡ w) → weight n (flying u x) < weight n (flying w u)
  find_weight_falls w u x c c' x≢w = elim (direction w u c) [
    | inl k ↦ elim (direction u x c') [ inl k' ↦ omega arith | inr k' ↦ omega arith ]
    | inr k ↦ elim c'.2 [
      | inl k' ↦ absurd (x≢w (k'.1 ∙ sym k.0))
      | inr k' ↦ (
          let l : u < x = omega (arith, tree x k'.0) in
          let e : weight n (flying u x) ≡ suc (n - x) = down n l in omega arith)
    ]
  ]
