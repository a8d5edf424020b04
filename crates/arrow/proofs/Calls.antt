-- Request, release and write on an open group. Assumes nothing.
use Rattle.std.proofs.Common.{◌≡◌, ℕ, ◌+◌, ◌<◌, true, false, not, leb, List, [], ◌∷◌, ◌++◌, length, Some, None, Ok, Err, Option, Result, sym, refl, ap, subst, inl, inr, arith}
use Rattle.std.proofs.lemmas.Bool.{cond_both, cond-true, leb-false, true≢false}
use Rattle.book.specs.Kinds.{Kept, by_rule}
use Rattle.carrier.specs.Parcels.{waiting}
use Rattle.directory.proofs.Facts.{follows_another}
use Rattle.tree.specs.Tree.{first_step, lane_between}
use Rattle.tree.proofs.Facts.{lane_between_below, first_step_neighbour}
use Rattle.words.specs.declared.event.Event.TheVariants.{Asked, Granted, Written, Rests, Sent}
use Rattle.words.specs.declared.message.Message.TheVariants.{Find, Book}
use Rattle.words.specs.declared.refusal.Refusal.TheVariants.{NotOpen, NoSuchPanel, Engaged, RequestLimit, NotHolding, UnlawfulRow}
use Rattle.words.specs.declared.rule_number.RuleNumber.{RuleNumber}
use Rattle.arrow.specs.declared.state.State.{State}
use Rattle.arrow.specs.declared.state.State.TheVariants.{Idle, Waiting, Holding, Resting}
use Rattle.arrow.specs.World.{World, is_open, panel_at}
use Rattle.arrow.specs.Rules.{with_part, has_asked, request_limit, takes_up, asks, by_rest, request_call, with_panel, with_row, has_book, holds, releases_to, release_call, write_call}
use Rattle.arrow.specs.Runs.{requests, releases, writes}
use Rattle.arrow.proofs.Arrangement.{no_find_short, no_book_short, LaneHas}
use Rattle.arrow.proofs.Handing.{way_below, sends_coupled}
use Rattle.arrow.proofs.Coupling.{Coupled, Opened, book_on}
use Rattle.arrow.proofs.Finds.{free_along, idle_neighbour, asks_coupled}
use Rattle.arrow.proofs.Heads.{find_head, book_head, find_made, book_made, book_parcel}
use Rattle.arrow.proofs.Sending.{panel_change, lane_change, with_ok, first_step_ok, send_ok}
use Rattle.arrow.proofs.Staying.{keeper, holder_page, takes_up_coupled, rests_coupled, writes_coupled}
use Rattle.arrow.proofs.Answering.{Answers, Does, refused, accepted, few_named, there, still_panels, still_lanes, holding, row_short}

module _ (landed : ℕ) (written : List ℕ) (w : World) (o : Opened landed written w) where
  abbrev x : Coupled w.tree w.kind (panel_at w) (waiting w.lanes) w.counts landed written
  x = o.coupled

  asks_done : (v : ℕ) → v < length w.tree → w.counts.requests < request_limit → (panel_at w v).state ≡ Idle
      → Does landed written w (requests v) (asks w v)
  asks_done v v<n few idles =
      let y = (panel_at w v).arrow in
      let k = lane_between w.tree v y in
      let cable = idle_neighbour o.tree x v v<n idles in
      let k<L = lane_between_below w.tree o.tree v y cable in
      let k<C : k < length w.lanes = omega (arith, o.lanes) in
      let none = free_along o.tree x v y cable (sym (x.panels.arrows v)) in
      let b = book_on x.carried (book_parcel x.home x.page) k in
      let room = no_find_short b (waiting w.lanes k) (subst (λ f. LaneHas f b (waiting w.lanes k)) none (x.lanes.parcels k k<L)) in
      with_ok (Does landed written w (requests v)) w _
      (send_ok w v y (Find v) (find_head v) [] o.tree cable (find_made v (few_named w.tree o.tree v v<n)) (omega arith) k<C room)
      (accepted landed written w _ (requests v) (Asked v y) refl refl refl (record {
        tree = o.tree;
        kind = o.kind;
        panels = still_panels landed written w o v _;
        lanes = still_lanes landed written w o k _;
        coupled = asks_coupled o.tree x v v<n idles few (panel_change w v _ (there landed written w o v v<n)) (lane_change w.lanes k _ k<C);
      }))

  takes_up_done : (v : ℕ) → v < length w.tree → w.counts.requests < request_limit → (panel_at w v).state ≡ Resting
      → Does landed written w (requests v) (takes_up w v)
  takes_up_done v v<n few rests =
      accepted landed written w _ (requests v) (Granted v v) refl refl refl (record {
        tree = o.tree;
        kind = o.kind;
        panels = still_panels landed written w o v _;
        lanes = o.lanes;
        coupled = takes_up_coupled o.tree x v v<n rests few (panel_change w v _ (there landed written w o v v<n));
      })

  pub request_done : (v : ℕ) → Does landed written w (requests v) (request_call w v)
  request_done v =
      let P = Does landed written w (requests v) in
      let refuses = refused landed written w (requests v) in
      cond_both (not (is_open w)) _ _ P (λ _. refuses NotOpen (inl refl)) (λ _.
      cond_both (leb (length w.tree) v) _ _ P (λ _. refuses NoSuchPanel (inr (inl refl))) (λ exists.
      cond_both (has_asked (panel_at w v).state) _ _ P (λ _. refuses Engaged (inr (inr (inl refl)))) (λ free.
      cond_both (leb request_limit w.counts.requests) _ _ P (λ _. refuses RequestLimit (inr (inr (inr (inl refl))))) (λ few.
      by_state v (leb-false (length w.tree) v exists) (leb-false request_limit w.counts.requests few) (panel_at w v).state refl free))))
    where
      by_state : (v : ℕ) → v < length w.tree → w.counts.requests < request_limit → (s : State) → (panel_at w v).state ≡ s → has_asked s ≡ false
          → Does landed written w (requests v) (by_rest s (asks w v) (takes_up w v))
      by_state v v<n few Idle e free = asks_done v v<n few e
      by_state v v<n few Waiting e free = absurd (true≢false free)
      by_state v v<n few Holding e free = absurd (true≢false free)
      by_state v v<n few Resting e free = takes_up_done v v<n few e

  sends_done : (v f : ℕ) → v < length w.tree → (panel_at w v).state ≡ Holding → (panel_at w v).follower ≡ Some f
      → Does landed written w (releases v) (releases_to w v (Some f))
  sends_done v f v<n holds follows =
      let P = Does landed written w (releases v) in
      let t : has_book (panel_at w v).state ≡ true = ap has_book holds in
      let y = first_step w.tree v f in
      let k = lane_between w.tree v y in
      let behind = x.panels.followers.to v f v<n follows in
      let apart : ¬ (v ≡ f) = λ e. follows_another x.queue.sound f v behind (sym e) in
      let f<n : f < length w.tree = x.queue.wired.requests f (λ i. search arith) in
      let k<L = way_below w.tree o.tree v f v<n f<n apart in
      let k<C : k < length w.lanes = omega (arith, o.lanes) in
      let kept = (keeper o.tree x v t).1 in
      let p = book_parcel x.home x.page in
      let room = no_book_short (x.finder k) (waiting w.lanes k)
      (subst (λ c. LaneHas (x.finder k) (book_on c p k) (waiting w.lanes k)) kept (x.lanes.parcels k k<L)) in
      with_ok P w _ (first_step_ok w.tree v f v<n f<n)
      (with_ok P w _
      (send_ok w v y (Book f) (book_head f) (panel_at w v).row o.tree (first_step_neighbour w.tree o.tree v f v<n f<n apart)
      (book_made f (few_named w.tree o.tree f f<n)) (row_short landed written w o v t) k<C room)
      (accepted landed written w _ (releases v) (Sent v f) refl refl refl (record {
        tree = o.tree;
        kind = o.kind;
        panels = still_panels landed written w o v _;
        lanes = still_lanes landed written w o k _;
        coupled = sends_coupled o.tree o.kind x v f v<n holds follows (panel_change w v _ (there landed written w o v v<n)) (lane_change w.lanes k _ k<C);
      })))

  rests_done : (v : ℕ) → v < length w.tree → (panel_at w v).state ≡ Holding → (panel_at w v).follower ≡ None
      → Does landed written w (releases v) (releases_to w v None)
  rests_done v v<n holds alone =
      accepted landed written w _ (releases v) (Rests v) refl refl refl (record {
        tree = o.tree;
        kind = o.kind;
        panels = still_panels landed written w o v _;
        lanes = o.lanes;
        coupled = rests_coupled o.tree x v v<n holds alone (panel_change w v _ (there landed written w o v v<n));
      })

  pub release_done : (v : ℕ) → Does landed written w (releases v) (release_call w v)
  release_done v =
      let P = Does landed written w (releases v) in
      let refuses = refused landed written w (releases v) in
      cond_both (not (is_open w)) _ _ P (λ _. refuses NotOpen (inl refl)) (λ _.
      cond_both (leb (length w.tree) v) _ _ P (λ _. refuses NoSuchPanel (inr (inl refl))) (λ exists.
      cond_both (not (holds (panel_at w v).state)) _ _ P (λ _. refuses NotHolding (inr (inr (inl refl)))) (λ held.
      by_follower v (leb-false (length w.tree) v exists) (holding (panel_at w v).state held) (panel_at w v).follower refl)))
    where
      by_follower : (v : ℕ) → v < length w.tree → (panel_at w v).state ≡ Holding → (f : Option ℕ) → (panel_at w v).follower ≡ f
          → Does landed written w (releases v) (releases_to w v f)
      by_follower v v<n holds None e = rests_done v v<n holds e
      by_follower v v<n holds (Some f) e = sends_done v f v<n holds e

  writes_done : (v entry : ℕ) → v < length w.tree → (panel_at w v).state ≡ Holding → (r : Result (List ℕ) RuleNumber)
      → w.kind.rule (panel_at w v).row entry ≡ r → Kept w.kind r
      → Does landed written w (writes v entry)
      (with_part (by_rule r) w (λ row. (Ok (Written v entry), with_panel w v (with_row row (panel_at w v)))))
  unfolding Answers
  writes_done v entry v<n holds (Ok new) e good =
      let same : landed ≡ landed + 0 = omega arith in (
        refl,
        subst (λ l. Opened l (written ++ entry ∷ []) (with_panel w v (with_row new (panel_at w v)))) same (record {
          tree = o.tree;
          kind = o.kind;
          panels = still_panels landed written w o v _;
          lanes = o.lanes;
          coupled = writes_coupled o.tree x v entry new v<n holds e good (panel_change w v _ (there landed written w o v v<n));
        }),
      )
  writes_done v entry v<n holds (Err n) e good = (inr (n, refl), refl)

  pub write_done : (v entry : ℕ) → Does landed written w (writes v entry) (write_call w v entry)
  write_done v entry =
      let P = Does landed written w (writes v entry) in
      let refuses = refused landed written w (writes v entry) in
      cond_both (not (is_open w)) _ _ P (λ _. refuses NotOpen (inl (inl refl))) (λ _.
      cond_both (leb (length w.tree) v) _ _ P (λ _. refuses NoSuchPanel (inl (inr (inl refl)))) (λ exists.
      cond_both (not (holds (panel_at w v).state)) _ _ P (λ _. refuses NotHolding (inl (inr (inr (inl refl))))) (λ held.
      let here = holding (panel_at w v).state held in
      let row = (panel_at w v).row in
      let lawful : w.kind.lawful row ≡ true =
      subst (λ r. w.kind.lawful r ≡ true) (sym (holder_page o.tree x v (ap has_book here))) x.book.lawful in
      subst (λ r. P (with_part r w (λ new. (Ok (Written v entry), with_panel w v (with_row new (panel_at w v))))))
      (sym (cond-true (w.kind.lawful row) (by_rule (w.kind.rule row entry)) (Err UnlawfulRow) lawful))
      (writes_done v entry (leb-false (length w.tree) v exists) here (w.kind.rule row entry) refl (o.kind.keeps row entry lawful)))))
