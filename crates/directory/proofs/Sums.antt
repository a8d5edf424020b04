-- The sum of a function over the numbers below k: how it falls, and how large it is. By induction on k. Assumes nothing.
use native.Mathlib.Decide.{ℕ_discrete}
use Rattle.std.proofs.Common.{ℕ, zero, suc, ◌+◌, ◌*◌, ◌<◌, ◌≤◌, arith}

abbrev pub total : (ℕ → ℕ) → ℕ → ℕ
total f zero = 0
total f (suc k) = f k + total f k

pub total_le : (f g : ℕ → ℕ) → ((j : ℕ) → g j ≤ f j) → (k : ℕ) → total g k ≤ total f k
total_le f g le zero = omega arith
total_le f g le (suc k) = omega (arith, le k, total_le f g le k)

-- it falls where no value rises and one below k falls
pub total_lt : (f g : ℕ → ℕ) → ((j : ℕ) → g j ≤ f j) → (a : ℕ) → g a < f a → (k : ℕ) → a < k → total g k < total f k
total_lt f g le a lt zero a<k = omega arith
total_lt f g le a lt (suc k) a<k = elim (ℕ_discrete a k) [
  | yes e ↦ (let here : g k < f k = rw e at lt in omega (arith, total_le f g le k))
  | no n ↦ (let before : a < k = omega arith in omega (arith, le k, total_lt f g le a lt k before))
]

pub total_bound : (f : ℕ → ℕ) (b : ℕ) → ((j : ℕ) → f j ≤ b) → (k : ℕ) → total f k ≤ k * b
total_bound f b le zero = omega arith
total_bound f b le (suc k) = omega (arith, le k, total_bound f b le k)
