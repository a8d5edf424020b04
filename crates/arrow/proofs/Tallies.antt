-- What a change of one panel's state, or of one request's place, does to the sums that the counts are compared with; and the page after
-- one more write. Assumes nothing.
use Rattle.std.proofs.Common.{◌≡◌, ℕ, ◌+◌, ◌<◌, List, [], ◌∷◌, ◌++◌, length, Ok, Err, Result, sym, refl, ap, ◌∙◌, subst, arith}
use Rattle.book.specs.Kinds.{Book}
use Rattle.directory.specs.Directory.{Place, Becomes}
use Rattle.directory.proofs.Sums.{total}
use Rattle.words.specs.declared.rule_number.RuleNumber.{RuleNumber}
use Rattle.arrow.specs.declared.state.State.{State}
use Rattle.arrow.specs.World.{Panel}
use Rattle.arrow.specs.Clauses.{MakesOf}
use Rattle.arrow.proofs.Changes.{becomes_part, total_moved}
use Rattle.arrow.proofs.Coupling.{busy, waits, flown, unflown, owed}

-- one value, which was `old`, becomes `new`: the sum of h changes by the difference
pub swapped : {A : Type 0} {f g : ℕ → A} {a : ℕ} {new : A} (h : ℕ → A → ℕ) → Becomes f a new g → (old : A) → f a ≡ old → (k : ℕ) → a < k
    → total (λ j. h j (g j)) k + h a old ≡ total (λ j. h j (f j)) k + h a new
swapped {f = f} {a = a} h change old was k a<k =
    let e : h a (f a) ≡ h a old = ap (h a) was in omega (arith, total_moved h change k a<k)

pub record StatesMoved (n : ℕ) (panel panel' : ℕ → Panel) (v : ℕ) (old new : State) : Type 0 where
  pub busy_moved : total (λ j. busy j (panel' j).state) n + busy v old ≡ total (λ j. busy j (panel j).state) n + busy v new
  pub waits_moved : total (λ j. waits j (panel' j).state) n + waits v old ≡ total (λ j. waits j (panel j).state) n + waits v new

pub states_moved : {panel panel' : ℕ → Panel} {v : ℕ} {p : Panel} (n : ℕ) → Becomes panel v p panel' → v < n → (old : State)
    → (panel v).state ≡ old → StatesMoved n panel panel' v old p.state
states_moved n change v<n old was =
    let change' = becomes_part (λ (x : Panel). x.state) change in
    record { busy_moved = swapped busy change' old was n v<n; waits_moved = swapped waits change' old was n v<n }

pub record PlacesMoved (ps : List ℕ) (place place' : ℕ → Place) (a : ℕ) (old new : Place) : Type 0 where
  pub flown_moved : total (λ j. flown ps j (place' j)) (length ps) + flown ps a old ≡ total (λ j. flown ps j (place j)) (length ps) + flown ps a new
  pub unflown_moved : total (λ j. unflown ps j (place' j)) (length ps) + unflown ps a old ≡ total (λ j. unflown ps j (place j)) (length ps) + unflown ps a new
  pub owed_moved : total (λ j. owed j (place' j)) (length ps) + owed a old ≡ total (λ j. owed j (place j)) (length ps) + owed a new

pub places_moved : {place place' : ℕ → Place} {a : ℕ} {new : Place} (ps : List ℕ) → Becomes place a new place' → a < length ps → (old : Place)
    → place a ≡ old → PlacesMoved ps place place' a old new
places_moved ps change a<n old was = record {
  flown_moved = swapped (flown ps) change old was (length ps) a<n;
  unflown_moved = swapped (unflown ps) change old was (length ps) a<n;
  owed_moved = swapped owed change old was (length ps) a<n;
}

-- one more accepted write
pub makes_more : (kind : Book) (r : Result (List ℕ) RuleNumber) (writes page : List ℕ) (entry : ℕ) (new : List ℕ) → MakesOf kind r writes page
    → kind.rule page entry ≡ Ok new → MakesOf kind r (writes ++ entry ∷ []) new
makes_more kind (Err n) writes page entry new m e = absurd m
makes_more kind (Ok row) [] page entry new m e =
    subst (λ r. MakesOf kind r [] new) (sym (ap (λ x. kind.rule x entry) m ∙ e)) refl
makes_more kind (Ok row) (first ∷ writes) page entry new m e = makes_more kind (kind.rule row first) writes page entry new m e
