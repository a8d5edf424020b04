-- What waits on the lanes of an open group, in terms of the directory: a parcel is the find of a panel whose find is there, or it is the
-- book's; and each find under way, and the book under way, has its parcel. Assumes nothing.
use Rattle.std.proofs.Common.{◌≡◌, ℕ, ◌<◌, ◌⊎◌, List, length, Some, Ok, Option, sym, ap, ◌∙◌, subst, inl, inr}
use Rattle.carrier.specs.Parcels.{Parcel, waiting}
use Rattle.directory.specs.Directory.{Place, flying}
use Rattle.tree.specs.Tree.{lane_source, lane_target, lane_between}
use Rattle.tree.proofs.Facts.{lane_between_below}
use Rattle.words.specs.Messages.{message_of}
use Rattle.words.specs.declared.message.Message.TheVariants.{Find, Book}
use Rattle.arrow.specs.World.{World, panel_at}
use Rattle.arrow.specs.Rules.{parcel_at}
use Rattle.arrow.specs.Clauses.{Waits}
use Rattle.arrow.proofs.Arrangement.{LaneHas, place_has, find_place, book_place}
use Rattle.arrow.proofs.Answering.{few_named}
use Rattle.arrow.proofs.Coupling.{Coupled, Opened, book_on}
use Rattle.arrow.proofs.Finds.{slot_between}
use Rattle.arrow.proofs.Heads.{find_parcel, book_parcel, find_read, book_read}
use Rattle.arrow.proofs.Lanes.{book_here, book_put}
use Rattle.arrow.proofs.Queue.{home_exists, find_panels}

-- a parcel that is the find of a
pub record IsFind (w : World) (place : ℕ → Place) (k i a : ℕ) : Type 0 where
  pub under_way : place a ≡ flying (lane_source w.tree k) (lane_target w.tree k)
  pub asker_exists : a < length w.tree
  pub parcel_is : parcel_at w k i ≡ find_parcel a
  pub reads : message_of (parcel_at w k i).head ≡ Ok (Find a)

-- a parcel that has the book, for the panel in front
pub record IsBook (w : World) (carried : Option ℕ) (home : ℕ) (page : List ℕ) (k i : ℕ) : Type 0 where
  pub under_way : carried ≡ Some k
  pub parcel_is : parcel_at w k i ≡ book_parcel home page
  pub reads : message_of (parcel_at w k i).head ≡ Ok (Book home)

module _ (landed : ℕ) (written : List ℕ) (w : World) (o : Opened landed written w) where
  abbrev x : Coupled w.tree w.kind (panel_at w) (waiting w.lanes) w.counts landed written
  x = o.coupled

  pub home_named : x.home < length w.tree
  home_named = home_exists w.tree o.tree x.queue

  book_reads : (k i : ℕ) → parcel_at w k i ≡ book_parcel x.home x.page → message_of (parcel_at w k i).head ≡ Ok (Book x.home)
  book_reads k i is = ap (λ (p : Parcel). message_of p.head) is ∙ book_read x.home (few_named w.tree o.tree x.home home_named)

  find_reads : (k i a : ℕ) → a < length w.tree → parcel_at w k i ≡ find_parcel a → message_of (parcel_at w k i).head ≡ Ok (Find a)
  find_reads k i a a<n is = ap (λ (p : Parcel). message_of p.head) is ∙ find_read a (few_named w.tree o.tree a a<n)

  -- what a waiting parcel is
  pub parcel_kind : (k i : ℕ) → Waits w k i → ((a : ℕ) × IsFind w x.d.place k i a) ⊎ IsBook w x.carried x.home x.page k i
  parcel_kind k i (k<L, waits) =
      elim (place_has (x.finder k) (book_on x.carried (book_parcel x.home x.page) k) (waiting w.lanes k) (x.lanes.parcels k k<L) i waits) [
        | inl f ↦ (
            let comes = x.lanes.finders.to k f.0 k<L f.1 in
            let a<n = (find_panels w.tree o.tree x.queue f.0 (lane_source w.tree k) (lane_target w.tree k) comes).0 in
            inl (f.0, record { under_way = comes; asker_exists = a<n; parcel_is = f.2; reads = find_reads k i f.0 a<n f.2 }))
        | inr b ↦ (
            let here = book_here x.carried (book_parcel x.home x.page) b.0 k b.1 in
            let is : parcel_at w k i ≡ book_parcel x.home x.page = b.2 ∙ here.1 in
            inr (record { under_way = here.0; parcel_is = is; reads = book_reads k i is }))
      ]

  -- a find under way waits on its lane
  pub find_waits : (a v u : ℕ) → x.d.place a ≡ flying v u → (k : ℕ) × (i : ℕ) × Waits w k i × (message_of (parcel_at w k i).head ≡ Ok (Find a))
  find_waits a v u comes =
      let cable = x.queue.wired.finds a v u comes in
      let k = lane_between w.tree v u in
      let k<L = lane_between_below w.tree o.tree v u cable in
      let b = book_on x.carried (book_parcel x.home x.page) k in
      let finds : x.finder k ≡ Some a = x.lanes.finders.from k a k<L (comes ∙ sym (slot_between w.tree o.tree v u cable)) in
      let p = find_place a b (waiting w.lanes k) (subst (λ f. LaneHas f b (waiting w.lanes k)) finds (x.lanes.parcels k k<L)) in
      (k, p.0, (k<L, p.1), find_reads k p.0 a (find_panels w.tree o.tree x.queue a v u comes).0 p.2)

  -- the book under way waits on its lane
  pub book_has : (k : ℕ) → x.carried ≡ Some k → LaneHas (x.finder k) (Some (book_parcel x.home x.page)) (waiting w.lanes k)
  book_has k on =
      let p = book_parcel x.home x.page in
      subst (λ b. LaneHas (x.finder k) b (waiting w.lanes k)) (book_put k p p).there
      (subst (λ c. LaneHas (x.finder k) (book_on c p k) (waiting w.lanes k)) on (x.lanes.parcels k (x.book.on_lane k on)))

  pub book_waits : (k : ℕ) → x.carried ≡ Some k → (i : ℕ) × Waits w k i × (parcel_at w k i ≡ book_parcel x.home x.page)
  book_waits k on =
      let p = book_place (x.finder k) (book_parcel x.home x.page) (waiting w.lanes k) (book_has k on) in
      (p.0, (x.book.on_lane k on, p.1), p.2)
