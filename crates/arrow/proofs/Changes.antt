-- Changes at one place, carried through a function of the values, and what a change does to a sum over the places. Assumes nothing.
use Rattle.std.proofs.Common.{◌≡◌, ℕ, zero, suc, ◌+◌, ◌<◌, sym, refl, ap, ◌∙◌, arith}
use native.Mathlib.Decide.{ℕ_discrete}
use Rattle.directory.specs.Directory.{Becomes}
use Rattle.directory.proofs.Sums.{total}
use Rattle.directory.proofs.Updates.{put, put_becomes}

-- a part of each value changes where the value does
pub becomes_part : {A B : Type 0} {f g : ℕ → A} {i : ℕ} {x : A} (part : A → B) → Becomes f i x g
    → Becomes (λ j. part (f j)) i (part x) (λ j. part (g j))
becomes_part part b = record { there = ap part b.there; elsewhere = λ j n. ap part (b.elsewhere j n) }

-- a part that the change leaves is the same everywhere
pub same_part : {A B : Type 0} {f g : ℕ → A} {i : ℕ} {x : A} (part : A → B) → Becomes f i x g → part x ≡ part (f i)
    → (j : ℕ) → part (g j) ≡ part (f j)
same_part {i = i} part b e j = elim (ℕ_discrete j i) [ yes c ↦ rw c (ap part b.there ∙ e) | no n ↦ ap part (b.elsewhere j n) ]

-- a change at i, seen from a function that was changed at i before
pub over_put : {A : Type 0} {f g : ℕ → A} {i : ℕ} {x : A} (y : A) → Becomes f i x g → Becomes (put f i y) i x g
over_put {f = f} {i = i} y b = record {
  there = b.there;
  elsewhere = λ j n. b.elsewhere j n ∙ sym ((put_becomes f i y).elsewhere j n);
}

-- two changes at two places, as one after the other
pub second_change : {A : Type 0} {f g : ℕ → A} {i j : ℕ} {x y : A} → g i ≡ x → g j ≡ y → ¬ (i ≡ j)
    → ((k : ℕ) → ¬ (k ≡ i) → ¬ (k ≡ j) → g k ≡ f k) → Becomes (put f i x) j y g
second_change {f = f} {g = g} {i = i} {j = j} {x = x} at_i at_j i≢j others = record {
  there = at_j;
  elsewhere = λ k n. elim (ℕ_discrete k i) [
    | yes e ↦ rw e (at_i ∙ sym (put_becomes f i x).there)
    | no m ↦ others k m n ∙ sym ((put_becomes f i x).elsewhere k m)
  ];
}

-- sums of equal values are equal
pub total_same : (f g : ℕ → ℕ) → ((j : ℕ) → g j ≡ f j) → (k : ℕ) → total g k ≡ total f k
total_same f g same zero = refl
total_same f g same (suc k) = omega (arith, same k, total_same f g same k)

-- values that are equal below k
total_same_below : (f g : ℕ → ℕ) (k : ℕ) → ((j : ℕ) → j < k → g j ≡ f j) → total g k ≡ total f k
total_same_below f g zero same = refl
total_same_below f g (suc k) same = omega (arith, same k, total_same_below f g k (λ j l. same j (omega arith)))

total_one : (f g : ℕ → ℕ) (a : ℕ) → ((j : ℕ) → ¬ (j ≡ a) → g j ≡ f j) → (k : ℕ) → a < k → total g k + f a ≡ total f k + g a
total_one f g a others zero a<k = omega arith
total_one f g a others (suc k) a<k = elim (ℕ_discrete a k) [
  | yes e ↦ (
      let below : total g k ≡ total f k = total_same_below f g k (λ j l. others j (omega arith)) in
      let p : f a ≡ f k = ap f e in
      let q : g a ≡ g k = ap g e in
      omega arith)
  | no n ↦ (let before : a < k = omega arith in omega (arith, others k (omega arith), total_one f g a others k before))
]

-- one value's part of a sum goes, and the new value's comes
pub total_moved : {A : Type 0} {f g : ℕ → A} {a : ℕ} {x : A} (h : ℕ → A → ℕ) → Becomes f a x g → (k : ℕ) → a < k
    → total (λ j. h j (g j)) k + h a (f a) ≡ total (λ j. h j (f j)) k + h a x
total_moved {f = f} {g = g} {a = a} {x = x} h b k a<k =
    let one = total_one (λ j. h j (f j)) (λ j. h j (g j)) a (λ j n. ap (h j) (b.elsewhere j n)) k a<k in
    let new : h a (g a) ≡ h a x = ap (h a) b.there in
    omega arith

-- a sum is 0 where every value is, and only there
pub total_zero : (f : ℕ → ℕ) (k : ℕ) → ((j : ℕ) → j < k → f j ≡ 0) → total f k ≡ 0
total_zero f zero all = refl
total_zero f (suc k) all = omega (arith, all k, total_zero f k (λ j l. all j (omega arith)))

pub zero_total : (f : ℕ → ℕ) (k : ℕ) → total f k ≡ 0 → (j : ℕ) → j < k → f j ≡ 0
zero_total f zero e j l = omega arith
zero_total f (suc k) e j l = elim (ℕ_discrete j k) [
  | yes c ↦ rw c (omega arith)
  | no n ↦ (let before : j < k = omega arith in zero_total f k (omega arith) j before)
]
