-- Changes at one place: of a function of the panels, and of a list that is read by its places. Assumes nothing.
use Rattle.std.proofs.Common.{◌≡◌, ℕ, ◌<◌, cond, eqb, List, length, get_or, set, sym, refl, ◌∙◌, subst}
use native.Mathlib.Decide.{ℕ_discrete}
use Rattle.std.proofs.lemmas.List.{get_or-set_same, get_or-set_other}
use Rattle.std.proofs.lemmas.Bool.{eq-eqb, ne_eqb, cond-true, cond-false}
use Rattle.directory.specs.Directory.{Becomes}

-- what holds at i and elsewhere holds everywhere
pub at_or_else : (P : ℕ → Type 0) (i : ℕ) → P i → ((j : ℕ) → ¬ (j ≡ i) → P j) → (j : ℕ) → P j
at_or_else P i there else j = elim (ℕ_discrete j i) [ yes e ↦ rw e there | no n ↦ else j n ]

-- what holds of the new value at i, and of the old values elsewhere, holds after the change
pub changed : {A : Type 0} {f g : ℕ → A} {i : ℕ} {x : A} (P : ℕ → A → Type 0) → Becomes f i x g
    → P i x → ((j : ℕ) → ¬ (j ≡ i) → P j (f j)) → (j : ℕ) → P j (g j)
changed {g = g} {i = i} P b there else =
    at_or_else (λ j. P j (g j)) i (subst (P i) (sym b.there) there) (λ j n. subst (P j) (sym (b.elsewhere j n)) (else j n))

-- the same, after a change at i and at j
pub changed_twice : {A : Type 0} (f g : ℕ → A) (i j : ℕ) {x y : A} (P : ℕ → A → Type 0)
    → g i ≡ x → g j ≡ y → ((k : ℕ) → ¬ (k ≡ i) → ¬ (k ≡ j) → g k ≡ f k)
    → P i x → P j y → ((k : ℕ) → ¬ (k ≡ i) → ¬ (k ≡ j) → P k (f k)) → (k : ℕ) → P k (g k)
changed_twice f g i j P at_i at_j others here_i here_j else =
    at_or_else (λ k. P k (g k)) i (subst (P i) (sym at_i) here_i)
    (λ k k≢i. elim (ℕ_discrete k j) [
      | yes e ↦ rw e (subst (P j) (sym at_j) here_j)
      | no k≢j ↦ subst (P k) (sym (others k k≢i k≢j)) (else k k≢i k≢j)
    ])

-- functions that agree still agree after the same change
pub same_change : {A : Type 0} {f g f' g' : ℕ → A} {i : ℕ} {x : A} → ((j : ℕ) → f j ≡ g j) → Becomes f i x f' → Becomes g i x g'
    → (j : ℕ) → f' j ≡ g' j
same_change {g' = g'} agree b c = changed (λ j y. y ≡ g' j) b (sym c.there) (λ j n. agree j ∙ sym (c.elsewhere j n))

-- f, but x at i
abbrev pub put : {A : Type 0} → (ℕ → A) → ℕ → A → ℕ → A
put f i x j = cond (eqb j i) x (f j)

pub put_becomes : {A : Type 0} (f : ℕ → A) (i : ℕ) (x : A) → Becomes f i x (put f i x)
put_becomes f i x = record {
  there = cond-true (eqb i i) x (f i) (eq-eqb i i refl);
  elsewhere = λ j n. cond-false (eqb j i) x (f j) (ne_eqb j i n);
}

-- a write to a list, at a place that it has
pub set_becomes : {A : Type 0} (xs : List A) (i : ℕ) (x k : A) → i < length xs
    → Becomes (λ j. get_or xs j k) i x (λ j. get_or (set xs i x) j k)
set_becomes xs i x k h = record {
  there = get_or-set_same xs i x k h;
  elsewhere = λ j n. get_or-set_other xs i j x k n;
}
