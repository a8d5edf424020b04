-- Two ways to say where a request stands: a table that names, for each of some slots, the panel whose request stands there, and the
-- places of the requests. They are tied where each says what the other says. Used for the finds on lanes, and for followers.
-- Assumes nothing.
use Rattle.std.proofs.Common.{◌≡◌, ℕ, ◌<◌, Some, None, Option, sym, refl, ap, ◌∙◌, arith}
use native.Mathlib.Decide.{ℕ_discrete}
use Rattle.directory.specs.Directory.{Place, Becomes}

-- the slots below `slots`; `slot k` is the place of a request that stands in slot k
pub record Tied (slots : ℕ) (slot : ℕ → Place) (table : ℕ → Option ℕ) (place : ℕ → Place) : Type 0 where
  pub to : (k a : ℕ) → k < slots → table k ≡ Some a → place a ≡ slot k
  pub from : (k a : ℕ) → k < slots → place a ≡ slot k → table k ≡ Some a

-- an entry that is no panel is none
pub none_if : (entry : Option ℕ) → ((a : ℕ) → ¬ (entry ≡ Some a)) → entry ≡ None
none_if None no_one = refl
none_if (Some a) no_one = absurd (no_one a refl)

-- different slots are different places
abbrev pub SlotsApart : ℕ → (ℕ → Place) → Type 0
SlotsApart slots slot = (k j : ℕ) → k < slots → j < slots → slot k ≡ slot j → k ≡ j

module _ {slots : ℕ} {slot : ℕ → Place} {table : ℕ → Option ℕ} {place place' : ℕ → Place} (tied : Tied slots slot table place) where
  -- a request that neither was nor is in a slot
  pub stay : {b : ℕ} {q : Place} → Becomes place b q place'
      → ((k : ℕ) → ¬ (place b ≡ slot k)) → ((k : ℕ) → ¬ (q ≡ slot k)) → Tied slots slot table place'
  stay {b} {q} change was is = record {
    to = λ k a l e.
        let p : place a ≡ slot k = tied.to k a l e in
        change.elsewhere a (λ c. was k (ap place (sym c) ∙ p)) ∙ p;
    from = λ k a l e.
        tied.from k a l (sym (change.elsewhere a (λ c. is k (sym change.there ∙ ap place' (sym c) ∙ e))) ∙ e);
  }

  -- a request leaves its slot
  pub leave : {table' : ℕ → Option ℕ} {b : ℕ} {q : Place} → SlotsApart slots slot → (i : ℕ) → i < slots → place b ≡ slot i
      → Becomes place b q place' → ((k : ℕ) → ¬ (q ≡ slot k)) → Becomes table i None table' → Tied slots slot table' place'
  leave {table'} {b} {q} apart i i<slots was change is goes = record {
    to = λ k a l e.
        let k≢i : ¬ (k ≡ i) = λ c. (let z : table' i ≡ Some a = ap table' (sym c) ∙ e in let t = goes.there in search arith) in
        let p : place a ≡ slot k = tied.to k a l (sym (goes.elsewhere k k≢i) ∙ e) in
        change.elsewhere a (λ c. k≢i (apart k i l i<slots (sym p ∙ ap place c ∙ was))) ∙ p;
    from = λ k a l e.
        let a≢b : ¬ (a ≡ b) = λ c. is k (sym change.there ∙ ap place' (sym c) ∙ e) in
        let p : place a ≡ slot k = sym (change.elsewhere a a≢b) ∙ e in
        let k≢i : ¬ (k ≡ i) = λ c. (
        let y : table i ≡ Some a = tied.from i a i<slots (p ∙ ap slot c) in
        let z : table i ≡ Some b = tied.from i b i<slots was in
        a≢b (cc)) in
        goes.elsewhere k k≢i ∙ tied.from k a l p;
  }

  -- a request comes into a slot that is free
  pub enter : {table' : ℕ → Option ℕ} {b : ℕ} → SlotsApart slots slot → (i : ℕ) → i < slots → ((k : ℕ) → ¬ (place b ≡ slot k))
      → Becomes place b (slot i) place' → table i ≡ None → Becomes table i (Some b) table' → Tied slots slot table' place'
  enter {table'} {b} apart i i<slots was change free comes = record {
    to = λ k a l e. elim (ℕ_discrete k i) [
      | yes c ↦ (
          let z : table' i ≡ Some a = ap table' (sym c) ∙ e in
          let y : table' i ≡ Some b = comes.there in
          let a≡b : a ≡ b = cc in
          ap place' a≡b ∙ change.there ∙ ap slot (sym c))
      | no k≢i ↦ (
          let p : place a ≡ slot k = tied.to k a l (sym (comes.elsewhere k k≢i) ∙ e) in
          change.elsewhere a (λ c. was k (ap place (sym c) ∙ p)) ∙ p)
    ];
    from = λ k a l e. elim (ℕ_discrete a b) [
      | yes c ↦ (
          let k≡i : k ≡ i = apart k i l i<slots (sym e ∙ ap place' c ∙ change.there) in
          ap table' k≡i ∙ comes.there ∙ ap (λ x. Some x) (sym c))
      | no a≢b ↦ (
          let p : place a ≡ slot k = sym (change.elsewhere a a≢b) ∙ e in
          let k≢i : ¬ (k ≡ i) = λ c. (let y : table i ≡ Some a = tied.from i a i<slots (p ∙ ap slot c) in search arith) in
          comes.elsewhere k k≢i ∙ tied.from k a l p)
    ];
  }
