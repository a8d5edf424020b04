-- The book under way: it moves on by a first step, and it comes to the panel that it is for. Assumes nothing.
use Rattle.std.proofs.Common.{◌≡◌, ℕ, ◌<◌, true, List, [], ◌∷◌, ◌++◌, length, Some, None, sym, refl, ap, ◌∙◌, subst, arith}
use Rattle.book.specs.Kinds.{Book}
use Rattle.carrier.specs.Parcels.{Parcel}
use Rattle.directory.specs.Directory.{Place, idle, flying, after, front, Becomes}
use Rattle.tree.specs.Tree.{lawful_tree, distance, lane_count, lane_target}
use Rattle.tree.proofs.Facts.{lane_ends_exist}
use Rattle.arrow.specs.declared.counts.Counts.{Counts}
use Rattle.arrow.specs.declared.state.State.{State}
use Rattle.arrow.specs.declared.state.State.TheVariants.{Waiting, Holding}
use Rattle.arrow.specs.World.{Panel}
use Rattle.arrow.specs.Rules.{about, with_row, count_book, count_grant}
use Rattle.arrow.proofs.Arrangement.{LaneHas}
use Rattle.arrow.proofs.Coupling.{Fits, LanesFit, book_on, remaining, Coupled}
use Rattle.arrow.proofs.Heads.{book_parcel}
use Rattle.arrow.proofs.Lanes.{book_taken, book_put, book_left, book_sent}
use Rattle.arrow.proofs.Panels.{fits_elsewhere, one_panel}
use Rattle.arrow.proofs.Queue.{front_home, home_exists}
use Rattle.arrow.proofs.Staying.{holder_plain}
use Rattle.arrow.proofs.Tallies.{states_moved}
use Rattle.arrow.proofs.Handing.{way_lane, way_below, way_nearer}

-- under way on any lane is the same to the panels
fits_lanes : (k k' : ℕ) (q : Place) (s : State) → Fits (Some k) q s → Fits (Some k') q s
fits_lanes k k' idle s f = f
fits_lanes k k' (flying w u) s f = f
fits_lanes k k' (after p) s f = f
fits_lanes k k' front s f = f

module _ {ps : List ℕ} {kind : Book} {panel : ℕ → Panel} {lane : ℕ → List Parcel} {c : Counts} {landed : ℕ} {writes : List ℕ}
    (lawful : lawful_tree ps ≡ true) (x : Coupled ps kind panel lane c landed writes) where
  home_here : x.home < length ps
  home_here = home_exists ps lawful x.queue

  -- the book moves on from lane k to the next
  pub moves_coupled : {lane' lane'' : ℕ → List Parcel} (k : ℕ) (left : List Parcel) → x.carried ≡ Some k
      → ¬ (lane_target ps k ≡ x.home) → LaneHas (x.finder k) None left → Becomes lane k left lane'
      → Becomes lane' (way_lane ps (lane_target ps k) x.home)
      (lane' (way_lane ps (lane_target ps k) x.home) ++ book_parcel x.home x.page ∷ []) lane''
      → Coupled ps kind panel lane'' (count_book c) landed writes
  moves_coupled {lane'} {lane''} k left on apart has lane_change post =
      let u = lane_target ps k in
      let k<L : k < lane_count ps = x.book.on_lane k on in
      let u<n : u < length ps = (lane_ends_exist ps lawful k k<L).1 in
      let k' = way_lane ps u x.home in
      let k'<L = way_below ps lawful u x.home u<n home_here apart in
      let p = book_parcel x.home x.page in
      let was : LanesFit ps x.d.place x.finder (book_on (Some k) p) lane =
      subst (λ j. LanesFit ps x.d.place x.finder (book_on j p) lane) on x.lanes in
      record {
        d = x.d;
        finder = x.finder;
        home = x.home;
        carried = Some k';
        page = x.page;
        queue = x.queue;
        panels = record {
          arrows = x.panels.arrows;
          fits = λ j. fits_lanes k k' (x.d.place j) (panel j).state (subst (λ i. Fits i (x.d.place j) (panel j).state) on (x.panels.fits j));
          plain = x.panels.plain;
          followers = x.panels.followers;
        };
        lanes = book_sent ps lawful (book_left ps lawful was (book_taken k p p) lane_change has) k'<L refl (book_put k' p p) post;
        book = record {
          kept = λ e. search arith;
          on_lane = λ j e. (let same : k' ≡ j = cc in subst (λ i. i < lane_count ps) same k'<L);
          lawful = x.book.lawful;
          made = x.book.made;
        };
        tally = (
            let t = x.tally in
            let r : remaining ps x.home x.carried ≡ distance ps x.home u = ap (remaining ps x.home) on in
            let near = way_nearer ps lawful u x.home u<n home_here apart in
            omega arith);
      }

  -- the book comes to the panel that it is for
  pub gets_coupled : {panel' : ℕ → Panel} {lane' : ℕ → List Parcel} (k : ℕ) (left : List Parcel) → x.carried ≡ Some k
      → lane_target ps k ≡ x.home → LaneHas (x.finder k) None left → Becomes lane k left lane'
      → Becomes panel (lane_target ps k) (about Holding (with_row x.page (panel (lane_target ps k)))) panel'
      → Coupled ps kind panel' lane' (count_grant c) landed writes
  gets_coupled {panel'} {lane'} k left on arrived has lane_change change =
      let u = lane_target ps k in
      let k<L : k < lane_count ps = x.book.on_lane k on in
      let u<n : u < length ps = (lane_ends_exist ps lawful k k<L).1 in
      let p = book_parcel x.home x.page in
      let was : LanesFit ps x.d.place x.finder (book_on (Some k) p) lane =
      subst (λ j. LanesFit ps x.d.place x.finder (book_on j p) lane) on x.lanes in
      let at_front : x.d.place u ≡ front = ap x.d.place arrived ∙ x.queue.home_front in
      let waiting : (panel u).state ≡ Waiting =
      subst (λ q. Fits (Some k) q (panel u).state) at_front (subst (λ i. Fits i (x.d.place u) (panel u).state) on (x.panels.fits u)) in
      record {
        d = x.d;
        finder = x.finder;
        home = x.home;
        carried = None;
        page = x.page;
        queue = x.queue;
        panels = one_panel x.panels change refl refl (rw at_front refl)
            (λ j n. fits_elsewhere x.carried None (x.d.place j) (panel j).state
            (λ e. n (front_home ps lawful x.queue j e ∙ sym arrived)) (x.panels.fits j))
            (holder_plain _ _ refl);
        lanes = book_left ps lawful was (book_taken k p p) lane_change has;
        book = record {
          kept = λ _. ap (λ j. (panel' j).row) (sym arrived) ∙ ap (λ (q : Panel). q.row) change.there;
          on_lane = λ j e. search arith;
          lawful = x.book.lawful;
          made = x.book.made;
        };
        tally = (
            let t = x.tally in
            let s = states_moved (length ps) change u<n Waiting waiting in
            omega arith);
      }
