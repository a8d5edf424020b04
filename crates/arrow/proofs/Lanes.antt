-- Takes and posts on the lanes: what each leaves of the description of the lanes. Assumes nothing.
use Rattle.std.proofs.Common.{◌≡◌, ℕ, ◌<◌, true, eqb, List, [], ◌∷◌, ◌++◌, Some, None, Option, sym, refl, ap, ◌∙◌, subst, arith}
use native.Mathlib.Decide.{ℕ_discrete}
use Rattle.std.proofs.lemmas.Bool.{cond-true, cond-false, eq-eqb, ne_eqb}
use Rattle.carrier.specs.Parcels.{Parcel}
use Rattle.directory.specs.Directory.{Place, Becomes}
use Rattle.tree.specs.Tree.{lawful_tree, lane_count, lane_source, lane_target, lane_between}
use Rattle.tree.proofs.Facts.{lane_of_ends}
use Rattle.arrow.proofs.Arrangement.{LaneHas, find_posted, book_posted}
use Rattle.arrow.proofs.Coupling.{LanesFit, lane_slot, book_on}
use Rattle.arrow.proofs.Heads.{find_parcel}
use Rattle.arrow.proofs.Tied.{SlotsApart, stay, leave, enter}

-- the book on its lane, and on no other
pub book_taken : (k : ℕ) (p p' : Parcel) → Becomes (book_on (Some k) p) k None (book_on None p')
book_taken k p p' = record { there = refl; elsewhere = λ j n. sym (cond-false (eqb j k) (Some p) None (ne_eqb j k n)) }

pub book_put : (k : ℕ) (p p' : Parcel) → Becomes (book_on None p) k (Some p') (book_on (Some k) p')
book_put k p p' = record {
  there = cond-true (eqb k k) (Some p') None (eq-eqb k k refl);
  elsewhere = λ j n. cond-false (eqb j k) (Some p') None (ne_eqb j k n);
}

pub book_here : (carried : Option ℕ) (p p' : Parcel) (k : ℕ) → book_on carried p k ≡ Some p' → (carried ≡ Some k) × (p' ≡ p)
book_here None p p' k e = search arith
book_here (Some c) p p' k e = elim (ℕ_discrete k c) [
  | yes s ↦ (ap (λ x. Some x) (sym s), (let t = cond-true (eqb k c) (Some p) None (eq-eqb k c s) in cc))
  | no n ↦ (let t = cond-false (eqb k c) (Some p) None (ne_eqb k c n) in search arith)
]

-- no change is a change to what was there
unchanged : {A : Type 0} (f : ℕ → A) (k : ℕ) → Becomes f k (f k) f
unchanged f k = record { there = refl; elsewhere = λ _ _. refl }

module _ (ps : List ℕ) (lawful : lawful_tree ps ≡ true) where
  -- different lanes have different ends
  pub lanes_apart : SlotsApart (lane_count ps) (lane_slot ps)
  lanes_apart k j k<L j<L e =
      let s : lane_source ps k ≡ lane_source ps j = cc in
      let t : lane_target ps k ≡ lane_target ps j = cc in
      sym (lane_of_ends ps lawful k k<L) ∙ ap (λ x. lane_between ps x (lane_target ps k)) s
      ∙ ap (λ x. lane_between ps (lane_source ps j) x) t ∙ lane_of_ends ps lawful j j<L

  module _ {place : ℕ → Place} {finder : ℕ → Option ℕ} {books : ℕ → Option Parcel} {lane : ℕ → List Parcel}
      (fit : LanesFit ps place finder books lane) where
    -- one lane and what is said of it change
    relaned : {lane' : ℕ → List Parcel} {k : ℕ} {new : List Parcel} {f : Option ℕ} {b : Option Parcel} {finder' : ℕ → Option ℕ} {books' : ℕ → Option Parcel}
        → Becomes lane k new lane' → Becomes finder k f finder' → Becomes books k b books' → LaneHas f b new
        → (j : ℕ) → j < lane_count ps → LaneHas (finder' j) (books' j) (lane' j)
    relaned {lane'} {k} {new} {f} {b} {finder'} {books'} change finds book here j l = elim (ℕ_discrete j k) [
      | yes e ↦ rw e (rw (change.there, finds.there, book.there) here)
      | no n ↦ rw (change.elsewhere j n, finds.elsewhere j n, book.elsewhere j n) (fit.parcels j l)
    ]

    -- a request moves that neither was nor is on a lane
    pub lanes_stay : {place' : ℕ → Place} {b : ℕ} {q : Place} → Becomes place b q place' → ((k : ℕ) → ¬ (place b ≡ lane_slot ps k))
        → ((k : ℕ) → ¬ (q ≡ lane_slot ps k)) → LanesFit ps place' finder books lane
    lanes_stay change was is = record { finders = stay fit.finders change was is; parcels = fit.parcels }

    -- the find of a is taken from lane k
    pub find_taken : {place' : ℕ → Place} {lane' : ℕ → List Parcel} {finder' : ℕ → Option ℕ} {a k : ℕ} {q : Place} {new : List Parcel} → k < lane_count ps → finder k ≡ Some a
        → Becomes place a q place' → ((j : ℕ) → ¬ (q ≡ lane_slot ps j)) → Becomes finder k None finder'
        → Becomes lane k new lane' → LaneHas None (books k) new → LanesFit ps place' finder' books lane'
    find_taken {place'} {lane'} {finder'} {a} {k} {q} k<L was change is goes lane_change left = record {
      finders = leave fit.finders lanes_apart k k<L (fit.finders.to k a k<L was) change is goes;
      parcels = relaned lane_change goes (unchanged books k) left;
    }

    -- the find of a is posted on lane k
    pub find_sent : {place' : ℕ → Place} {lane' : ℕ → List Parcel} {finder' : ℕ → Option ℕ} {a k : ℕ} → k < lane_count ps → finder k ≡ None
        → ((j : ℕ) → ¬ (place a ≡ lane_slot ps j)) → Becomes place a (lane_slot ps k) place' → Becomes finder k (Some a) finder'
        → Becomes lane k (lane k ++ find_parcel a ∷ []) lane' → LanesFit ps place' finder' books lane'
    find_sent {place'} {lane'} {finder'} {a} {k} k<L free was change comes lane_change = record {
      finders = enter fit.finders lanes_apart k k<L was change free comes;
      parcels = relaned lane_change comes (unchanged books k)
          (find_posted (books k) (lane k) a (subst (λ f. LaneHas f (books k) (lane k)) free (fit.parcels k k<L)));
    }

    -- the book is taken from lane k
    pub book_left : {lane' : ℕ → List Parcel} {books' : ℕ → Option Parcel} {k : ℕ} {new : List Parcel} → Becomes books k None books'
        → Becomes lane k new lane' → LaneHas (finder k) None new → LanesFit ps place finder books' lane'
    book_left {lane'} {books'} {k} goes lane_change left = record {
      finders = fit.finders;
      parcels = relaned lane_change (unchanged finder k) goes left;
    }

    -- the book is posted on lane k
    pub book_sent : {lane' : ℕ → List Parcel} {books' : ℕ → Option Parcel} {k : ℕ} {p : Parcel} → k < lane_count ps → books k ≡ None → Becomes books k (Some p) books'
        → Becomes lane k (lane k ++ p ∷ []) lane' → LanesFit ps place finder books' lane'
    book_sent {lane'} {books'} {k} {p} k<L free comes lane_change = record {
      finders = fit.finders;
      parcels = relaned lane_change (unchanged finder k) comes
          (book_posted (finder k) (lane k) p (subst (λ b. LaneHas (finder k) b (lane k)) free (fit.parcels k k<L)));
    }
