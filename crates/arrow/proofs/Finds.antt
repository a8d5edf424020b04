-- The calls that move a find: an idle panel asks, a find is passed on, and a find lands where the book does not rest.
-- Assumes nothing.
use Rattle.std.proofs.Common.{◌≡◌, ℕ, ◌+◌, ◌<◌, true, List, [], ◌∷◌, ◌++◌, length, Some, None, sym, refl, ap, ◌∙◌, subst, arith}
use Rattle.book.specs.Kinds.{Book}
use Rattle.carrier.specs.Parcels.{Parcel}
use Rattle.directory.specs.Directory.{idle, flying, Becomes}
use Rattle.directory.proofs.Facts.{no_arrow_along, self_arrow_unfollowed}
use Rattle.directory.proofs.Makes.{request_made, makes_request, pass_made, makes_pass, land_made, makes_land}
use Rattle.directory.proofs.Updates.{at_or_else, changed, same_change, put, put_becomes}
use Rattle.tree.specs.Tree.{lawful_tree, neighbours, distance, lane_count, lane_source, lane_target, lane_between}
use Rattle.tree.proofs.Facts.{lane_between_below, lane_between_source, lane_between_target, neighbours_exist, neighbour_distance, distance_below_most}
use Rattle.arrow.specs.declared.counts.Counts.{Counts}
use Rattle.arrow.specs.declared.state.State.TheVariants.{Idle, Waiting, Resting}
use Rattle.arrow.specs.World.{Panel}
use Rattle.arrow.specs.Rules.{has_book, request_limit, about, turned, followed, count_request, count_find}
use Rattle.arrow.proofs.Arrangement.{LaneHas}
use Rattle.arrow.proofs.Changes.{becomes_part, same_part, over_put}
use Rattle.arrow.proofs.Coupling.{Fits, Plain, lane_slot, book_on, Coupled}
use Rattle.arrow.proofs.Heads.{find_parcel, book_parcel}
use Rattle.arrow.proofs.Lanes.{find_taken, find_sent}
use Rattle.arrow.proofs.Panels.{retable, idle_place, fits_flying, page_stays}
use Rattle.arrow.proofs.Queue.{find_panels, idle_cable, pass_cable, pass_farther, queue_request, queue_pass, queue_land}
use Rattle.arrow.proofs.Tallies.{states_moved, places_moved}
use Rattle.arrow.proofs.Tied.{none_if, stay, enter}

-- the slot of the lane between neighbours
pub slot_between : (ps : List ℕ) → lawful_tree ps ≡ true → (w u : ℕ) → neighbours ps w u ≡ true → lane_slot ps (lane_between ps w u) ≡ flying w u
slot_between ps lawful w u t =
    let s = lane_between_source ps lawful w u t in
    let e = lane_between_target ps lawful w u t in cc

module _ {ps : List ℕ} {kind : Book} {panel : ℕ → Panel} {lane : ℕ → List Parcel} {c : Counts} {landed : ℕ} {writes : List ℕ}
    (lawful : lawful_tree ps ≡ true) (x : Coupled ps kind panel lane c landed writes) where
  -- no find is on the lane along an arrow
  pub free_along : (v y : ℕ) → neighbours ps v y ≡ true → x.d.arrow v ≡ y → x.finder (lane_between ps v y) ≡ None
  free_along v y t e =
      none_if (x.finder (lane_between ps v y)) (λ a f.
      no_arrow_along x.queue.sound a v y
      (x.lanes.finders.to (lane_between ps v y) a (lane_between_below ps lawful v y t) f ∙ slot_between ps lawful v y t) e)

  pub idle_neighbour : (v : ℕ) → v < length ps → (panel v).state ≡ Idle → neighbours ps v (panel v).arrow ≡ true
  idle_neighbour v v<n e =
      subst (λ y. neighbours ps v y ≡ true) (sym (x.panels.arrows v))
      (idle_cable ps lawful x.queue v v<n (idle_place x.carried (x.d.place v) (panel v).state (x.panels.fits v) e))

  pub asks_coupled : {panel' : ℕ → Panel} {lane' : ℕ → List Parcel} (v : ℕ) → v < length ps → (panel v).state ≡ Idle → c.requests < request_limit
      → Becomes panel v (turned v (about Waiting (panel v))) panel'
      → Becomes lane (lane_between ps v (panel v).arrow) (lane (lane_between ps v (panel v).arrow) ++ find_parcel v ∷ []) lane'
      → Coupled ps kind panel' lane' (count_find (count_request c)) landed writes
  asks_coupled {panel'} {lane'} v v<n idles few change lane_change =
      let at_idle : x.d.place v ≡ idle = idle_place x.carried (x.d.place v) (panel v).state (x.panels.fits v) idles in
      let m = makes_request x.d v at_idle in
      let y = (panel v).arrow in
      let k = lane_between ps v y in
      let cable : neighbours ps v y ≡ true = idle_neighbour v v<n idles in
      let slot : flying v (x.d.arrow v) ≡ lane_slot ps k =
      ap (λ j. flying v j) (sym (x.panels.arrows v)) ∙ sym (slot_between ps lawful v y cable) in
      record {
        d = request_made x.d v;
        finder = put x.finder k (Some v);
        home = x.home;
        carried = x.carried;
        page = x.page;
        queue = queue_request ps lawful x.queue v<n m;
        panels = record {
          arrows = same_change x.panels.arrows (becomes_part (λ (p : Panel). p.arrow) change) m.turns;
          fits = at_or_else (λ j. Fits x.carried ((request_made x.d v).place j) (panel' j).state) v
              (rw (m.moves.there, change.there) refl)
              (λ j n. rw (m.moves.elsewhere j n, change.elsewhere j n) (x.panels.fits j));
          plain = changed (λ j p. j < length ps → Plain kind.width p) change
              (λ l. record { alone = λ e. search arith; bare = λ _. (x.panels.plain v l).bare (ap has_book idles) })
              (λ j _ l. x.panels.plain j l);
          followers = retable (stay x.panels.followers m.moves (λ _ e. search arith) (λ _ e. search arith))
              (same_part (λ (p : Panel). p.follower) change refl);
        };
        lanes = find_sent ps lawful x.lanes (lane_between_below ps lawful v y cable) (free_along v y cable (sym (x.panels.arrows v)))
            (λ _ e. search arith) (subst (λ q. Becomes x.d.place v q (request_made x.d v).place) slot m.moves)
            (put_becomes x.finder k (Some v)) lane_change;
        book = page_stays x.book change refl;
        tally = (
            let t = x.tally in
            let s = states_moved (length ps) change v<n Idle idles in
            let p = places_moved ps m.moves v<n idle at_idle in
            let far : distance ps v (x.d.arrow v) ≡ 1 = ap (distance ps v) (sym (x.panels.arrows v)) ∙ neighbour_distance ps lawful v y cable in
            omega arith);
      }

  pub passes_coupled : {panel' : ℕ → Panel} {lane' lane'' : ℕ → List Parcel} (a k : ℕ) (left : List Parcel) → k < lane_count ps
      → x.finder k ≡ Some a → ¬ ((panel (lane_target ps k)).arrow ≡ lane_target ps k)
      → Becomes panel (lane_target ps k) (turned (lane_source ps k) (panel (lane_target ps k))) panel'
      → LaneHas None (book_on x.carried (book_parcel x.home x.page) k) left → Becomes lane k left lane'
      → (k' : ℕ) → k' ≡ lane_between ps (lane_target ps k) (panel (lane_target ps k)).arrow
      → Becomes lane' k' (lane' k' ++ find_parcel a ∷ []) lane''
      → Coupled ps kind panel' lane'' (count_find c) landed writes
  passes_coupled {panel'} {lane'} {lane''} a k left k<L finds away change has lane_change k' is post =
      let w = lane_source ps k in
      let u = lane_target ps k in
      let y = (panel u).arrow in
      let same : y ≡ x.d.arrow u = x.panels.arrows u in
      let comes : x.d.place a ≡ flying w u = x.lanes.finders.to k a k<L finds in
      let off : ¬ (x.d.arrow u ≡ u) = λ e. away (same ∙ e) in
      let m = makes_pass x.d a w u comes off in
      let cable : neighbours ps u y ≡ true =
      subst (λ j. neighbours ps u j ≡ true) (sym same) (pass_cable ps lawful x.queue a w u comes off) in
      let k'<L : k' < lane_count ps = subst (λ j. j < lane_count ps) (sym is) (lane_between_below ps lawful u y cable) in
      let slot : flying u (x.d.arrow u) ≡ lane_slot ps k' =
      ap (λ j. flying u j) (sym same) ∙ sym (slot_between ps lawful u y cable) ∙ ap (lane_slot ps) (sym is) in
      let here = find_panels ps lawful x.queue a w u comes in
      let finder' = put x.finder k None in
      let free : finder' k' ≡ None = changed (λ j f. j ≡ k' → f ≡ None) (put_becomes x.finder k None) (λ _. refl)
      (λ j _ e. ap x.finder (e ∙ is) ∙ free_along u y cable (sym same)) k' refl in
      let mid = find_taken ps lawful x.lanes k<L finds (put_becomes x.d.place a idle) (λ _ e. search arith)
      (put_becomes x.finder k None) lane_change has in
      record {
        d = pass_made x.d a w u;
        finder = put finder' k' (Some a);
        home = x.home;
        carried = x.carried;
        page = x.page;
        queue = queue_pass ps lawful x.queue m;
        panels = record {
          arrows = same_change x.panels.arrows (becomes_part (λ (p : Panel). p.arrow) change) m.turns;
          fits = λ j. subst (Fits x.carried ((pass_made x.d a w u).place j)) (sym (same_part (λ (p : Panel). p.state) change refl j))
              (changed (λ i q. Fits x.carried q (panel i).state) m.moves
              (fits_flying x.carried (x.d.place a) (panel a).state w u comes (x.panels.fits a)) (λ i _. x.panels.fits i) j);
          plain = changed (λ j p. j < length ps → Plain kind.width p) change
              (λ l. let p = x.panels.plain u l in record { alone = p.alone; bare = p.bare }) (λ j _ l. x.panels.plain j l);
          followers = retable (stay x.panels.followers m.moves (λ _ e. search arith) (λ _ e. search arith))
              (same_part (λ (p : Panel). p.follower) change refl);
        };
        lanes = find_sent ps lawful mid k'<L free
            (λ j e. (let z : put x.d.place a idle a ≡ idle = (put_becomes x.d.place a idle).there in search arith))
            (over_put idle (subst (λ q. Becomes x.d.place a q (pass_made x.d a w u).place) slot m.moves))
            (put_becomes finder' k' (Some a)) post;
        book = page_stays x.book change refl;
        tally = (
            let t = x.tally in
            let s = states_moved (length ps) change here.2 (panel u).state refl in
            let p = places_moved ps m.moves here.0 (flying w u) comes in
            let far = pass_farther ps lawful x.queue a w u comes off in
            let most = distance_below_most ps lawful a (x.d.arrow u) here.0 (subst (λ j. j < length ps) same (exists u y cable)) in
            omega arith);
      }
    where
      exists : (u y : ℕ) → neighbours ps u y ≡ true → y < length ps
      exists u y t = omega (arith, (neighbours_exist ps lawful u y t).1)

  pub lands_coupled : {panel' : ℕ → Panel} {lane' : ℕ → List Parcel} (a k : ℕ) (left : List Parcel) → k < lane_count ps
      → x.finder k ≡ Some a → (panel (lane_target ps k)).arrow ≡ lane_target ps k → ¬ ((panel (lane_target ps k)).state ≡ Resting)
      → Becomes panel (lane_target ps k) (turned (lane_source ps k) (followed (Some a) (panel (lane_target ps k)))) panel'
      → LaneHas None (book_on x.carried (book_parcel x.home x.page) k) left → Becomes lane k left lane'
      → Coupled ps kind panel' lane' c (landed + distance ps a (lane_target ps k)) writes
  lands_coupled {panel'} {lane'} a k left k<L finds ends no_rest change has lane_change =
      let w = lane_source ps k in
      let u = lane_target ps k in
      let self : x.d.arrow u ≡ u = sym (x.panels.arrows u) ∙ ends in
      let comes : x.d.place a ≡ flying w u = x.lanes.finders.to k a k<L finds in
      let m = makes_land x.d a w u comes self in
      let here = find_panels ps lawful x.queue a w u comes in
      let free : (panel u).follower ≡ None = none_if (panel u).follower (λ b e.
      self_arrow_unfollowed x.queue.sound u self b (x.panels.followers.to u b here.2 e)) in
      record {
        d = land_made x.d a w u;
        finder = put x.finder k None;
        home = x.home;
        carried = x.carried;
        page = x.page;
        queue = queue_land ps lawful x.queue m;
        panels = record {
          arrows = same_change x.panels.arrows (becomes_part (λ (p : Panel). p.arrow) change) m.turns;
          fits = λ j. subst (Fits x.carried ((land_made x.d a w u).place j)) (sym (same_part (λ (p : Panel). p.state) change refl j))
              (changed (λ i q. Fits x.carried q (panel i).state) m.moves
              (fits_flying x.carried (x.d.place a) (panel a).state w u comes (x.panels.fits a)) (λ i _. x.panels.fits i) j);
          plain = changed (λ j p. j < length ps → Plain kind.width p) change
              (λ l. record { alone = λ e. absurd (no_rest e); bare = (x.panels.plain u l).bare }) (λ j _ l. x.panels.plain j l);
          followers = enter x.panels.followers (λ i j _ _ e. (cc)) u here.2 (λ _ e. search arith) m.moves free
              (becomes_part (λ (p : Panel). p.follower) change);
        };
        lanes = find_taken ps lawful x.lanes k<L finds m.moves (λ _ e. search arith) (put_becomes x.finder k None) lane_change has;
        book = page_stays x.book change refl;
        tally = (
            let t = x.tally in
            let s = states_moved (length ps) change here.2 (panel u).state refl in
            let p = places_moved ps m.moves here.0 (flying w u) comes in
            omega arith);
      }
