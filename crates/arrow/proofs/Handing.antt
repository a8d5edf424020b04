-- The book is handed over to the next panel: where a find lands at rest, and by a release to the follower. Assumes nothing.
use Rattle.std.proofs.Common.{◌≡◌, ℕ, ◌+◌, ◌<◌, true, List, [], ◌∷◌, ◌++◌, length, replicate, Some, None, Ok, Option, sym, refl, ap, ◌∙◌, subst, arith}
use native.Mathlib.Decide.{ℕ_discrete}
use Rattle.book.specs.Kinds.{Book, Sound as SoundKind}
use Rattle.carrier.specs.Parcels.{Parcel}
use Rattle.directory.specs.Directory.{Place, idle, flying, after, front, Becomes}
use Rattle.directory.proofs.Facts.{find_away, follows_another}
use Rattle.directory.proofs.Makes.{hand_over, makes_hand_on, makes_land_at_rest}
use Rattle.directory.proofs.Updates.{changed, same_change, put, put_becomes}
use Rattle.tree.specs.Tree.{most_panels, lawful_tree, distance, first_step, lane_count, lane_source, lane_target, lane_between}
use Rattle.tree.proofs.Facts.{lane_between_below, lane_between_target, first_step_neighbour, first_step_nearer, distance_below_most}
use Rattle.arrow.specs.declared.counts.Counts.{Counts}
use Rattle.arrow.specs.declared.state.State.TheVariants.{Idle, Waiting, Holding, Resting}
use Rattle.arrow.specs.World.{Panel}
use Rattle.arrow.specs.Rules.{has_book, about, turned, followed, emptied, count_book, count_release}
use Rattle.arrow.specs.Clauses.{MakesOf}
use Rattle.arrow.proofs.Arrangement.{LaneHas}
use Rattle.arrow.proofs.Changes.{becomes_part, same_part}
use Rattle.arrow.proofs.Coupling.{Plain, Queue, LanesFit, book_on, remaining, Tallied, Coupled, waits}
use Rattle.arrow.proofs.Heads.{book_parcel}
use Rattle.arrow.proofs.Lanes.{book_put, lanes_stay, find_taken, book_sent}
use Rattle.arrow.proofs.Panels.{retable, fits_elsewhere, fits_flying, fits_after}
use Rattle.arrow.proofs.Queue.{front_home, find_panels, queue_hand_on, queue_land_at_rest}
use Rattle.arrow.proofs.Staying.{lanes_kept, keeper, keeper_home, holder_page}
use Rattle.arrow.proofs.Tallies.{states_moved, places_moved}
use Rattle.arrow.proofs.Tied.{Tied, stay, leave}

-- the lane on which a book for a leaves u
abbrev pub way_lane : List ℕ → ℕ → ℕ → ℕ
way_lane ps u a = lane_between ps u (first_step ps u a)

module _ (ps : List ℕ) (lawful : lawful_tree ps ≡ true) (u a : ℕ) (u<n : u < length ps) (a<n : a < length ps) (apart : ¬ (u ≡ a)) where
  pub way_below : way_lane ps u a < lane_count ps
  way_below = lane_between_below ps lawful u (first_step ps u a) (first_step_neighbour ps lawful u a u<n a<n apart)

  -- each step brings the book one cable nearer, and no way is longer than 31
  pub way_nearer : distance ps a (lane_target ps (way_lane ps u a)) + 1 ≡ distance ps a u
  way_nearer =
      let t = lane_between_target ps lawful u (first_step ps u a) (first_step_neighbour ps lawful u a u<n a<n apart) in
      let e : distance ps a (lane_target ps (way_lane ps u a)) ≡ distance ps a (first_step ps u a) = ap (distance ps a) t in
      omega (arith, first_step_nearer ps lawful u a apart)

  pub way_short : distance ps a u < most_panels
  way_short = distance_below_most ps lawful a u a<n u<n

module _ {ps : List ℕ} {kind : Book} {panel : ℕ → Panel} {lane : ℕ → List Parcel} {c : Counts} {landed : ℕ} {writes : List ℕ}
    (lawful : lawful_tree ps ≡ true) (kind_sound : SoundKind kind) (x : Coupled ps kind panel lane c landed writes) where
  -- u, which has the book, hands it over to a, which waits; `arrow` is the arrow of u afterwards, and arrows' are the arrows of all
  handed : {panel' : ℕ → Panel} {lane' lane'' : ℕ → List Parcel} {finder' : ℕ → Option ℕ} {c' : Counts} {landed' : ℕ}
      (u a arrow : ℕ) (arrows' : ℕ → ℕ) (p : Parcel)
      → has_book (panel u).state ≡ true → u < length ps → ¬ (u ≡ a) → (panel a).state ≡ Waiting
      → Queue ps a (record { arrow = arrows'; place = hand_over x.d.place u a })
      → Becomes panel u (turned arrow (followed None (about Idle (emptied (panel u))))) panel'
      → ((j : ℕ) → (panel' j).arrow ≡ arrows' j)
      → Tied (length ps) after (λ v. (panel' v).follower) (hand_over x.d.place u a)
      → LanesFit ps (hand_over x.d.place u a) finder' (book_on None p) lane'
      → Becomes lane' (way_lane ps u a) (lane' (way_lane ps u a) ++ book_parcel a (panel u).row ∷ []) lane''
      → Tallied ps (hand_over x.d.place u a) panel' (remaining ps a (Some (way_lane ps u a))) c' landed'
      → Coupled ps kind panel' lane'' c' landed' writes
  handed {panel'} {lane'} {lane''} {finder'} u a arrow arrows' p has u<n apart waits queue change arrows followers fit post tally =
      let place' = hand_over x.d.place u a in
      let k = way_lane ps u a in
      let row : (panel u).row ≡ x.page = holder_page lawful x u has in
      let wide : length (panel u).row ≡ kind.width = ap length row ∙ kind_sound.long x.page x.book.lawful in
      let a<n : a < length ps = queue.wired.requests a (λ i. (let f = queue.home_front in search arith)) in
      let k<L = way_below ps lawful u a u<n a<n apart in
      let first = put_becomes x.d.place u idle in
      let second = put_becomes (put x.d.place u idle) a front in
      record {
        d = record { arrow = arrows'; place = place' };
        finder = finder';
        home = a;
        carried = Some k;
        page = (panel u).row;
        queue = queue;
        panels = record {
          arrows = arrows;
          fits = λ j. elim (ℕ_discrete j u) [
            | yes e ↦ rw e (rw (second.elsewhere u apart ∙ first.there, change.there) refl)
            | no n ↦ rw (change.elsewhere j n) (elim (ℕ_discrete j a) [
              | yes e ↦ rw e (rw second.there waits)
              | no n' ↦ rw (second.elsewhere j n' ∙ first.elsewhere j n)
                  (fits_elsewhere x.carried (Some k) (x.d.place j) (panel j).state
                  (λ e. n (front_home ps lawful x.queue j e ∙ sym (keeper_home lawful x u has))) (x.panels.fits j))
            ])
          ];
          plain = changed (λ j p. j < length ps → Plain kind.width p) change
              (λ _. record { alone = λ e. search arith; bare = λ _. ap (λ n. replicate n 0) wide }) (λ j _ l. x.panels.plain j l);
          followers = followers;
        };
        lanes = book_sent ps lawful fit k<L refl (book_put k p (book_parcel a (panel u).row)) post;
        book = record {
          kept = λ e. search arith;
          on_lane = λ j e. (let same : k ≡ j = cc in subst (λ i. i < lane_count ps) same k<L);
          lawful = subst (λ r. kind.lawful r ≡ true) (sym row) x.book.lawful;
          made = subst (MakesOf kind (Ok kind.opening) writes) (sym row) x.book.made;
        };
        tally = tally;
      }

  pub lands_at_rest_coupled : {panel' : ℕ → Panel} {lane' lane'' : ℕ → List Parcel} (a k : ℕ) (left : List Parcel) → k < lane_count ps
      → x.finder k ≡ Some a → (panel (lane_target ps k)).arrow ≡ lane_target ps k → (panel (lane_target ps k)).state ≡ Resting
      → Becomes panel (lane_target ps k) (turned (lane_source ps k) (followed None (about Idle (emptied (panel (lane_target ps k)))))) panel'
      → LaneHas None (book_on x.carried (book_parcel x.home x.page) k) left → Becomes lane k left lane'
      → Becomes lane' (way_lane ps (lane_target ps k) a)
      (lane' (way_lane ps (lane_target ps k) a) ++ book_parcel a (panel (lane_target ps k)).row ∷ []) lane''
      → Coupled ps kind panel' lane'' (count_book c) (landed + distance ps a (lane_target ps k)) writes
  lands_at_rest_coupled {panel'} {lane'} {lane''} a k left k<L finds ends rests change has lane_change post =
      let w = lane_source ps k in
      let u = lane_target ps k in
      let book : has_book (panel u).state ≡ true = ap has_book rests in
      let self : x.d.arrow u ≡ u = sym (x.panels.arrows u) ∙ ends in
      let comes : x.d.place a ≡ flying w u = x.lanes.finders.to k a k<L finds in
      let at_front = (keeper lawful x u book).0 in
      let kept = (keeper lawful x u book).1 in
      let m = makes_land_at_rest x.d a w u comes self at_front in
      let here = find_panels ps lawful x.queue a w u comes in
      let apart : ¬ (u ≡ a) = λ e. find_away x.queue.sound a w u comes (sym e) in
      let mid : ℕ → Place = put x.d.place u idle in
      let first : Becomes x.d.place u idle mid = put_becomes x.d.place u idle in
      let second : Becomes mid a front (put mid a front) = put_becomes mid a front in
      let comes' : mid a ≡ flying w u = first.elsewhere a (λ e. apart (sym e)) ∙ comes in
      let alone : (panel u).follower ≡ None = (x.panels.plain u here.2).alone rests in
      let p = book_parcel x.home x.page in
      let calm = lanes_stay ps lawful (lanes_kept x.carried p x.lanes kept p) first (λ _ e. search arith) (λ _ e. search arith) in
      handed u a w (put x.d.arrow u w) p book here.2 apart
      (fits_flying x.carried (x.d.place a) (panel a).state w u comes (x.panels.fits a))
      (queue_land_at_rest ps lawful x.queue m) change
      (same_change x.panels.arrows (becomes_part (λ (q : Panel). q.arrow) change) m.turns)
      (retable (stay (stay x.panels.followers first (λ _ e. search arith) (λ _ e. search arith)) second (λ _ e. search arith) (λ _ e. search arith))
      (same_part (λ (q : Panel). q.follower) change (sym alone)))
      (find_taken ps lawful calm k<L finds second (λ _ e. search arith) (put_becomes x.finder k None) lane_change
      (subst (λ k'. LaneHas None (book_on k' p k) left) kept has))
      post
      (let t = x.tally in
      let s = states_moved (length ps) change here.2 Resting rests in
      let p₁ = places_moved ps first here.2 front at_front in
      let p₂ = places_moved ps second here.0 (flying w u) comes' in
      let r : remaining ps x.home x.carried ≡ 0 = ap (remaining ps x.home) kept in
      let near = way_nearer ps lawful u a here.2 here.0 apart in
      let short = way_short ps lawful u a here.2 here.0 apart in
      omega arith)

  pub sends_coupled : {panel' : ℕ → Panel} {lane' : ℕ → List Parcel} (v f : ℕ) → v < length ps → (panel v).state ≡ Holding
      → (panel v).follower ≡ Some f
      → Becomes panel v (turned (panel v).arrow (followed None (about Idle (emptied (panel v))))) panel'
      → Becomes lane (way_lane ps v f) (lane (way_lane ps v f) ++ book_parcel f (panel v).row ∷ []) lane'
      → Coupled ps kind panel' lane' (count_release (count_book c)) landed writes
  sends_coupled {panel'} {lane'} v f v<n holds follows change post =
      let book : has_book (panel v).state ≡ true = ap has_book holds in
      let at_front = (keeper lawful x v book).0 in
      let kept = (keeper lawful x v book).1 in
      let behind : x.d.place f ≡ after v = x.panels.followers.to v f v<n follows in
      let m = makes_hand_on x.d v f at_front behind in
      let apart : ¬ (v ≡ f) = λ e. follows_another x.queue.sound f v behind (sym e) in
      let f<n : f < length ps = x.queue.wired.requests f (λ i. search arith) in
      let mid : ℕ → Place = put x.d.place v idle in
      let first : Becomes x.d.place v idle mid = put_becomes x.d.place v idle in
      let second : Becomes mid f front (put mid f front) = put_becomes mid f front in
      let behind' : mid f ≡ after v = first.elsewhere f (λ e. apart (sym e)) ∙ behind in
      let p = book_parcel x.home x.page in
      handed v f (panel v).arrow x.d.arrow p book v<n apart
      (fits_after x.carried (x.d.place f) (panel f).state v behind (x.panels.fits f))
      (queue_hand_on ps lawful x.queue m) change
      (λ j. same_part (λ (q : Panel). q.arrow) change refl j ∙ x.panels.arrows j)
      (leave (stay x.panels.followers first (λ _ e. search arith) (λ _ e. search arith)) (λ i j _ _ e. (cc)) v v<n behind' second
      (λ _ e. search arith) (becomes_part (λ (q : Panel). q.follower) change))
      (lanes_stay ps lawful
      (lanes_stay ps lawful (lanes_kept x.carried p x.lanes kept p) first (λ _ e. search arith) (λ _ e. search arith))
      second (λ _ e. search arith) (λ _ e. search arith))
      post
      (let t = x.tally in
      let s = states_moved (length ps) change v<n Holding holds in
      let p₁ = places_moved ps first v<n front at_front in
      let p₂ = places_moved ps second f<n (after v) behind' in
      let r : remaining ps x.home x.carried ≡ 0 = ap (remaining ps x.home) kept in
      let near = way_nearer ps lawful v f v<n f<n apart in
      let short = way_short ps lawful v f v<n f<n apart in
      omega arith)
