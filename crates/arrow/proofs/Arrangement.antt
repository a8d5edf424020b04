-- What waits on one lane: at most one find word and at most one book word, in either order. Assumes nothing.
use Rattle.std.proofs.Common.{◌≡◌, ℕ, zero, suc, ◌<◌, ◌≤◌, ◌⊎◌, List, [], ◌∷◌, ◌++◌, length, Some, None, Option, sym, refl, ap, ◌∙◌, inl, inr, arith}
use Rattle.std.specs.List.{remove}
use Rattle.carrier.specs.Parcels.{Parcel, at_place}
use Rattle.arrow.proofs.Heads.{find_parcel}

-- the parcels of a lane where the find of this panel waits, or none, and this parcel with the book, or none
abbrev pub LaneHas : Option ℕ → Option Parcel → List Parcel → Type 0
LaneHas None None parcels = parcels ≡ []
LaneHas (Some a) None parcels = parcels ≡ find_parcel a ∷ []
LaneHas None (Some b) parcels = parcels ≡ b ∷ []
LaneHas (Some a) (Some b) parcels = (parcels ≡ find_parcel a ∷ b ∷ []) ⊎ (parcels ≡ b ∷ find_parcel a ∷ [])

-- what a parcel at a place is: the find, or the book; and what is left without it
abbrev pub PlaceHas : Option ℕ → Option Parcel → List Parcel → ℕ → Type 0
PlaceHas f b parcels i =
    ((a : ℕ) × (f ≡ Some a) × (at_place parcels i ≡ find_parcel a) × LaneHas None b (remove parcels i))
    ⊎ ((p : Parcel) × (b ≡ Some p) × (at_place parcels i ≡ p) × LaneHas f None (remove parcels i))

one_place : (x : Parcel) (i : ℕ) → i < 1 → (at_place (x ∷ []) i ≡ x) × (remove (x ∷ []) i ≡ [])
one_place x zero l = (refl, refl)
one_place x (suc i) l = absurd (omega arith)

two_places : (x y : Parcel) (i : ℕ) → i < 2
    → ((at_place (x ∷ y ∷ []) i ≡ x) × (remove (x ∷ y ∷ []) i ≡ y ∷ [])) ⊎ ((at_place (x ∷ y ∷ []) i ≡ y) × (remove (x ∷ y ∷ []) i ≡ x ∷ []))
two_places x y zero l = inl (refl, refl)
two_places x y (suc zero) l = inr (refl, refl)
two_places x y (suc (suc i)) l = absurd (omega arith)

pub place_has : (f : Option ℕ) (b : Option Parcel) (parcels : List Parcel) → LaneHas f b parcels → (i : ℕ) → i < length parcels
    → PlaceHas f b parcels i
place_has None None parcels e i l = absurd (let z : length parcels ≡ 0 = ap length e in omega arith)
place_has (Some a) None parcels e i l =
    rw e (let p = one_place (find_parcel a) i (let z : length parcels ≡ 1 = ap length e in omega arith) in inl (a, refl, p.0, p.1))
place_has None (Some b) parcels e i l =
    rw e (let p = one_place b i (let z : length parcels ≡ 1 = ap length e in omega arith) in inr (b, refl, p.0, p.1))
place_has (Some a) (Some b) parcels (inl e) i l =
    rw e (elim (two_places (find_parcel a) b i (let z : length parcels ≡ 2 = ap length e in omega arith)) [
      | inl p ↦ inl (a, refl, p.0, p.1)
      | inr p ↦ inr (b, refl, p.0, p.1)
    ])
place_has (Some a) (Some b) parcels (inr e) i l =
    rw e (elim (two_places b (find_parcel a) i (let z : length parcels ≡ 2 = ap length e in omega arith)) [
      | inl p ↦ inr (b, refl, p.0, p.1)
      | inr p ↦ inl (a, refl, p.0, p.1)
    ])

-- a lane has at most two, and at most one where there is no find, or no book
pub lane_short : (f : Option ℕ) (b : Option Parcel) (parcels : List Parcel) → LaneHas f b parcels → length parcels ≤ 2
lane_short None None parcels e = omega (arith, ap length e)
lane_short (Some a) None parcels e = omega (arith, ap length e)
lane_short None (Some b) parcels e = omega (arith, ap length e)
lane_short (Some a) (Some b) parcels (inl e) = omega (arith, ap length e)
lane_short (Some a) (Some b) parcels (inr e) = omega (arith, ap length e)

pub no_find_short : (b : Option Parcel) (parcels : List Parcel) → LaneHas None b parcels → length parcels < 2
no_find_short None parcels e = omega (arith, ap length e)
no_find_short (Some b) parcels e = omega (arith, ap length e)

pub no_book_short : (f : Option ℕ) (parcels : List Parcel) → LaneHas f None parcels → length parcels < 2
no_book_short None parcels e = omega (arith, ap length e)
no_book_short (Some a) parcels e = omega (arith, ap length e)

-- a post at the end
pub find_posted : (b : Option Parcel) (parcels : List Parcel) (a : ℕ) → LaneHas None b parcels
    → LaneHas (Some a) b (parcels ++ find_parcel a ∷ [])
find_posted None parcels a e = ap (λ ps. ps ++ find_parcel a ∷ []) e
find_posted (Some b) parcels a e = inr (ap (λ ps. ps ++ find_parcel a ∷ []) e)

pub book_posted : (f : Option ℕ) (parcels : List Parcel) (p : Parcel) → LaneHas f None parcels → LaneHas f (Some p) (parcels ++ p ∷ [])
book_posted None parcels p e = ap (λ ps. ps ++ p ∷ []) e
book_posted (Some a) parcels p e = inl (ap (λ ps. ps ++ p ∷ []) e)

-- a find that waits, and a book that waits, has a place
pub find_place : (a : ℕ) (b : Option Parcel) (parcels : List Parcel) → LaneHas (Some a) b parcels
    → (i : ℕ) × (i < length parcels) × (at_place parcels i ≡ find_parcel a)
find_place a None parcels e = rw e (0, omega arith, refl)
find_place a (Some b) parcels (inl e) = rw e (0, omega arith, refl)
find_place a (Some b) parcels (inr e) = rw e (1, omega arith, refl)

pub book_place : (f : Option ℕ) (p : Parcel) (parcels : List Parcel) → LaneHas f (Some p) parcels
    → (i : ℕ) × (i < length parcels) × (at_place parcels i ≡ p)
book_place None p parcels e = rw e (0, omega arith, refl)
book_place (Some a) p parcels (inl e) = rw e (1, omega arith, refl)
book_place (Some a) p parcels (inr e) = rw e (0, omega arith, refl)

-- the book has one place, as it is not the find that waits there
pub one_book_place : (f : Option ℕ) (p : Parcel) (parcels : List Parcel) → LaneHas f (Some p) parcels
    → ((a : ℕ) → f ≡ Some a → ¬ (p ≡ find_parcel a)) → (i j : ℕ) → i < length parcels → j < length parcels
    → at_place parcels i ≡ p → at_place parcels j ≡ p → i ≡ j
one_book_place None p parcels e other i j li lj pi pj = let z : length parcels ≡ 1 = ap length e in omega arith
one_book_place (Some a) p parcels (inl e) other i j li lj pi pj =
    let z : length parcels ≡ 2 = ap length e in
    let first : (k : ℕ) → k < 2 → at_place parcels k ≡ p → k ≡ 1 =
    λ k l q. second a p k l (λ c. other a refl c) (ap (λ ps. at_place ps k) (sym e) ∙ q) in
    first i (omega arith) pi ∙ sym (first j (omega arith) pj)
  where
    second : (a : ℕ) (p : Parcel) (k : ℕ) → k < 2 → ¬ (p ≡ find_parcel a) → at_place (find_parcel a ∷ p ∷ []) k ≡ p → k ≡ 1
    second a p zero l n q = absurd (n (sym q))
    second a p (suc zero) l n q = refl
    second a p (suc (suc k)) l n q = absurd (omega arith)
one_book_place (Some a) p parcels (inr e) other i j li lj pi pj =
    let z : length parcels ≡ 2 = ap length e in
    let first : (k : ℕ) → k < 2 → at_place parcels k ≡ p → k ≡ 0 =
    λ k l q. head a p k l (λ c. other a refl c) (ap (λ ps. at_place ps k) (sym e) ∙ q) in
    first i (omega arith) pi ∙ sym (first j (omega arith) pj)
  where
    head : (a : ℕ) (p : Parcel) (k : ℕ) → k < 2 → ¬ (p ≡ find_parcel a) → at_place (p ∷ find_parcel a ∷ []) k ≡ p → k ≡ 0
    head a p zero l n q = refl
    head a p (suc zero) l n q = absurd (n (sym q))
    head a p (suc (suc k)) l n q = absurd (omega arith)
