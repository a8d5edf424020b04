-- What a delivery on an open group does, whichever waiting parcel the carrier gives: it is refused by a refusal that is listed for it, and
-- the world is as it was; or it answers an event, and the world left is that of an open group again. Assumes nothing.
use Rattle.std.proofs.Common.{◌≡◌, ℕ, ◌+◌, ◌<◌, ◌≤◌, true, not, eqb, ltb, leb, List, [], ◌∷◌, length, set, Some, None, Ok, Option, sym, refl, ap, ◌∙◌, subst, inl, inr, arith}
use Rattle.std.proofs.lemmas.List.{length-set, append-nil}
use Rattle.std.proofs.lemmas.Bool.{cond_both, leb-false, eqb-true, eqb-false}
use Rattle.std.specs.List.{remove}
use Rattle.carrier.specs.Parcels.{Parcel, longest_body, waiting, enough_space, taken}
use Rattle.directory.specs.Directory.{flying}
use Rattle.directory.proofs.Facts.{find_away}
use Rattle.tree.specs.Tree.{distance, neighbours, first_step, lane_count, lane_source, lane_target, lane_between}
use Rattle.tree.proofs.Facts.{lane_between_below, first_step_neighbour, lane_ends_exist}
use Rattle.words.specs.Messages.{message_of}
use Rattle.words.specs.declared.event.Event.TheVariants.{Granted, Passed, Landed, Moved}
use Rattle.words.specs.declared.message.Message.TheVariants.{Find, Book}
use Rattle.words.specs.declared.refusal.Refusal.{Refusal}
use Rattle.words.specs.declared.refusal.Refusal.TheVariants.{NotOpen, NoSuchLane, SpaceTooShort, LaneEmpty}
use Rattle.arrow.specs.declared.state.State.{State}
use Rattle.arrow.specs.declared.state.State.TheVariants.{Idle, Waiting, Holding, Resting}
use Rattle.arrow.specs.World.{World, is_open, panel_at}
use Rattle.arrow.specs.Rules.{Outcome, refuse, with_lanes, with_panel, turned, followed, has_book, by_rest, hand_over, passes_on, gets_book, moves_on, meets, by_refusal, deliver_call, parcel_at, delivers as delivers_parcel}
use Rattle.arrow.specs.Runs.{Call, WaitsAt}
use Rattle.arrow.specs.Facts.{OneOf, Listed}
use Rattle.arrow.proofs.Arrangement.{LaneHas, place_has, no_find_short, no_book_short}
use Rattle.arrow.proofs.Carrying.{moves_coupled, gets_coupled}
use Rattle.arrow.proofs.Handing.{way_below, lands_at_rest_coupled}
use Rattle.arrow.proofs.Answering.{Answers, Does, refused, accepted, few_named, there, still_panels, still_lanes, row_short}
use Rattle.arrow.proofs.Coupling.{Coupled, Opened, book_on}
use Rattle.arrow.proofs.Finds.{free_along, passes_coupled, lands_coupled}
use Rattle.arrow.proofs.Heads.{find_head, book_head, find_made, book_made, find_read, book_read, book_parcel}
use Rattle.arrow.proofs.Lanes.{book_taken, book_here}
use Rattle.arrow.proofs.Queue.{home_exists, find_panels, pass_cable}
use Rattle.arrow.proofs.Sending.{panel_change, lane_change, with_ok, first_step_ok, send_ok, room_after}
use Rattle.arrow.proofs.Staying.{keeper}

-- a landing adds its distance
landing : (landed : ℕ) (written : List ℕ) (w w' : World) (call : Call) (a u flag : ℕ) → w'.tree ≡ w.tree
    → Opened (landed + distance w'.tree a u) written w'
    → Does landed written w call (Ok (Landed a u flag), w')
unfolding Answers
landing landed written w w' call a u flag same o =
    (same, subst (λ ws. Opened (landed + distance w'.tree a u) ws w') (sym (append-nil written)) o)

-- the lane k of an open group, and the place i of a parcel that waits there
module _ (landed : ℕ) (written : List ℕ) (w : World) (o : Opened landed written w) (call : Call)
    (k : ℕ) (k<L : k < lane_count w.tree) (i : ℕ) where
  abbrev P : Outcome → Type 0
  P = Does landed written w call

  abbrev x : Coupled w.tree w.kind (panel_at w) (waiting w.lanes) w.counts landed written
  x = o.coupled

  -- the ends of the lane
  abbrev from : ℕ
  from = lane_source w.tree k

  abbrev u : ℕ
  u = lane_target w.tree k

  -- what the take leaves of the lane, and the world
  abbrev left : List Parcel
  left = remove (waiting w.lanes k) i

  abbrev w₁ : World
  w₁ = with_lanes w (taken w.lanes k i)

  -- the parcel of the book, if it is under way
  abbrev page_parcel : Parcel
  page_parcel = book_parcel x.home x.page

  k<C : k < length w.lanes
  k<C = omega (arith, o.lanes)

  u<n : u < length w.tree
  u<n = (lane_ends_exist w.tree o.tree k k<L).1

  -- the lanes after the take and a post
  still_lanes_twice : (j : ℕ) (parcels : List Parcel) → lane_count w.tree ≤ length (set w₁.lanes j parcels)
  still_lanes_twice j parcels = omega (arith, length-set w₁.lanes j parcels, still_lanes landed written w o k left)

  on_carrier : (j : ℕ) → j < lane_count w.tree → j < length w₁.lanes
  on_carrier j l = omega (arith, still_lanes landed written w o k left)

  -- the find of a came
  module _ (a : ℕ) (finds : x.finder k ≡ Some a) (has : LaneHas None (book_on x.carried page_parcel k) left) where
    comes : x.d.place a ≡ flying from u
    comes = x.lanes.finders.to k a k<L finds

    a<n : a < length w.tree
    a<n = (find_panels w.tree o.tree x.queue a from u comes).0

    passes_done : ¬ ((panel_at w u).arrow ≡ u) → P (passes_on w₁ from u a)
    passes_done away =
        let y = (panel_at w u).arrow in
        let j = lane_between w.tree u y in
        let same : y ≡ x.d.arrow u = x.panels.arrows u in
        let cable : neighbours w.tree u y ≡ true =
        subst (λ z. neighbours w.tree u z ≡ true) (sym same)
        (pass_cable w.tree o.tree x.queue a from u comes (λ e. away (same ∙ e))) in
        let j<L = lane_between_below w.tree o.tree u y cable in
        let b = book_on x.carried page_parcel j in
        let room = room_after (lane_change w.lanes k left k<C) (no_find_short (book_on x.carried page_parcel k) left has) j (λ _.
        no_find_short b (waiting w.lanes j)
        (subst (λ f. LaneHas f b (waiting w.lanes j)) (free_along o.tree x u y cable (sym same)) (x.lanes.parcels j j<L))) in
        with_ok P w₁ _
        (send_ok w₁ u y (Find a) (find_head a) [] o.tree cable (find_made a (few_named w.tree o.tree a a<n)) (omega arith) (on_carrier j j<L) room)
        (accepted landed written w _ call (Passed a u y) refl refl refl (record {
          tree = o.tree;
          kind = o.kind;
          panels = still_panels landed written w o u _;
          lanes = still_lanes_twice j _;
          coupled = passes_coupled o.tree x a k left k<L finds away (panel_change w u _ (there landed written w o u u<n)) has
              (lane_change w.lanes k left k<C) j refl (lane_change w₁.lanes j _ (on_carrier j j<L));
        }))

    follows_done : (panel_at w u).arrow ≡ u → ¬ ((panel_at w u).state ≡ Resting)
        → P (Ok (Landed a u 0), with_panel w₁ u (turned from (followed (Some a) (panel_at w₁ u))))
    follows_done ends busy =
        landing landed written w _ call a u 0 refl (record {
          tree = o.tree;
          kind = o.kind;
          panels = still_panels landed written w o u _;
          lanes = still_lanes landed written w o k left;
          coupled = lands_coupled o.tree x a k left k<L finds ends busy (panel_change w u _ (there landed written w o u u<n)) has
              (lane_change w.lanes k left k<C);
        })

    leaves_done : (panel_at w u).arrow ≡ u → (panel_at w u).state ≡ Resting → P (hand_over w₁ u a from (Landed a u 1) (λ c. c))
    leaves_done ends rests =
        let t : has_book (panel_at w u).state ≡ true = ap has_book rests in
        let kept = (keeper o.tree x u t).1 in
        let y = first_step w.tree u a in
        let j = lane_between w.tree u y in
        let apart : ¬ (u ≡ a) = λ e. find_away x.queue.sound a from u comes (sym e) in
        let j<L = way_below w.tree o.tree u a u<n a<n apart in
        let room = room_after (lane_change w.lanes k left k<C) (no_find_short (book_on x.carried page_parcel k) left has) j (λ _.
        no_book_short (x.finder j) (waiting w.lanes j)
        (subst (λ c. LaneHas (x.finder j) (book_on c page_parcel j) (waiting w.lanes j)) kept (x.lanes.parcels j j<L))) in
        with_ok P w₁ _ (first_step_ok w.tree u a u<n a<n)
        (with_ok P w₁ _
        (send_ok w₁ u y (Book a) (book_head a) (panel_at w u).row o.tree (first_step_neighbour w.tree o.tree u a u<n a<n apart)
        (book_made a (few_named w.tree o.tree a a<n)) (row_short landed written w o u t) (on_carrier j j<L) room)
        (landing landed written w _ call a u 1 refl (record {
          tree = o.tree;
          kind = o.kind;
          panels = still_panels landed written w o u _;
          lanes = still_lanes_twice j _;
          coupled = lands_at_rest_coupled o.tree o.kind x a k left k<L finds ends rests (panel_change w u _ (there landed written w o u u<n)) has
              (lane_change w.lanes k left k<C) (lane_change w₁.lanes j _ (on_carrier j j<L));
        })))

    find_done : P (meets w₁ from u (parcel_at w k i).body (Find a))
    find_done =
        cond_both (eqb (panel_at w u).arrow u) _ _ P (λ t. by_state (eqb-true (panel_at w u).arrow u t) (panel_at w u).state refl)
        (λ f. passes_done (eqb-false (panel_at w u).arrow u f))
      where
        by_state : (panel_at w u).arrow ≡ u → (s : State) → (panel_at w u).state ≡ s
            → P (by_rest s (Ok (Landed a u 0), with_panel w₁ u (turned from (followed (Some a) (panel_at w₁ u)))) (hand_over w₁ u a from (Landed a u 1) (λ c. c)))
        by_state ends Idle e = follows_done ends (λ r. search arith)
        by_state ends Waiting e = follows_done ends (λ r. search arith)
        by_state ends Holding e = follows_done ends (λ r. search arith)
        by_state ends Resting e = leaves_done ends e

  -- the book came
  module _ (on : x.carried ≡ Some k) (has : LaneHas (x.finder k) None left) where
    gets_done : u ≡ x.home → P (gets_book w₁ from u x.page)
    gets_done arrived =
        accepted landed written w _ call (Granted u from) refl refl refl (record {
          tree = o.tree;
          kind = o.kind;
          panels = still_panels landed written w o u _;
          lanes = still_lanes landed written w o k left;
          coupled = gets_coupled o.tree x k left on arrived has (lane_change w.lanes k left k<C) (panel_change w u _ (there landed written w o u u<n));
        })

    moves_done : ¬ (u ≡ x.home) → P (moves_on w₁ u x.home x.page)
    moves_done apart =
        let a = x.home in
        let a<n = home_exists w.tree o.tree x.queue in
        let y = first_step w.tree u a in
        let j = lane_between w.tree u y in
        let j<L = way_below w.tree o.tree u a u<n a<n apart in
        let wide = o.kind.long x.page x.book.lawful in
        let short : length x.page ≤ longest_body = omega (arith, o.kind.narrow) in
        let room = room_after (lane_change w.lanes k left k<C) (no_book_short (x.finder k) left has) j (λ n.
        no_book_short (x.finder j) (waiting w.lanes j)
        (subst (λ b. LaneHas (x.finder j) b (waiting w.lanes j)) (sym ((book_taken k page_parcel page_parcel).elsewhere j n))
        (subst (λ c. LaneHas (x.finder j) (book_on c page_parcel j) (waiting w.lanes j)) on (x.lanes.parcels j j<L)))) in
        with_ok P w₁ _ (first_step_ok w.tree u a u<n a<n)
        (with_ok P w₁ _
        (send_ok w₁ u y (Book a) (book_head a) x.page o.tree (first_step_neighbour w.tree o.tree u a u<n a<n apart)
        (book_made a (few_named w.tree o.tree a a<n)) short (on_carrier j j<L) room)
        (accepted landed written w _ call (Moved a u y) refl refl refl (record {
          tree = o.tree;
          kind = o.kind;
          panels = o.panels;
          lanes = still_lanes_twice j _;
          coupled = moves_coupled o.tree x k left on apart has (lane_change w.lanes k left k<C) (lane_change w₁.lanes j _ (on_carrier j j<L));
        })))

    book_done : P (meets w₁ from u x.page (Book x.home))
    book_done =
        cond_both (eqb u x.home) _ _ P (λ t. gets_done (eqb-true u x.home t)) (λ f. moves_done (eqb-false u x.home f))

  delivered : i < length (waiting w.lanes k) → P (delivers_parcel w k i)
  delivered waits =
      elim (place_has (x.finder k) (book_on x.carried page_parcel k) (waiting w.lanes k) (x.lanes.parcels k k<L) i waits) [
        | inl f ↦ (
            let a = f.0 in
            let read : message_of (parcel_at w k i).head ≡ Ok (Find a) =
            ap (λ (p : Parcel). message_of p.head) f.2 ∙ find_read a (few_named w.tree o.tree a (a<n a f.1 f.3)) in
            with_ok P w₁ _ read (find_done a f.1 f.3))
        | inr b ↦ (
            let here = book_here x.carried page_parcel b.0 k b.1 in
            let is : parcel_at w k i ≡ page_parcel = b.2 ∙ here.1 in
            let read : message_of (parcel_at w k i).head ≡ Ok (Book x.home) =
            ap (λ (p : Parcel). message_of p.head) is
            ∙ book_read x.home (few_named w.tree o.tree x.home (home_exists w.tree o.tree x.queue)) in
            with_ok P w₁ _ read
            (subst (λ body. P (meets w₁ from u body (Book x.home))) (sym (ap (λ (p : Parcel). p.body) is)) (book_done here.0 b.3)))
      ]

pub deliver_done : (landed : ℕ) (written : List ℕ) (w : World) → Opened landed written w → (call : Call)
    → ((e : Refusal) → OneOf e (NotOpen ∷ NoSuchLane ∷ SpaceTooShort ∷ LaneEmpty ∷ []) → Listed call e)
    → (k size i : ℕ) → WaitsAt w k i → Does landed written w call (deliver_call w k size i)
deliver_done landed written w o call lists k size i waits =
    let Q : Option Refusal → Type 0 = λ r. Does landed written w call (by_refusal r (refuse w) (delivers_parcel w k i)) in
    let refuses : (e : Refusal) → OneOf e (NotOpen ∷ NoSuchLane ∷ SpaceTooShort ∷ LaneEmpty ∷ []) → Does landed written w call (refuse w e) =
    λ e l. refused landed written w call e (lists e l) in
    cond_both (not (is_open w)) _ _ Q (λ _. refuses NotOpen (inl refl)) (λ _.
    cond_both (leb (lane_count w.tree) k) _ _ Q (λ _. refuses NoSuchLane (inr (inl refl))) (λ lane.
    cond_both (leb (length w.lanes) k) _ _ Q (λ _. refuses NoSuchLane (inr (inl refl))) (λ _.
    cond_both (ltb size (enough_space (waiting w.lanes k))) _ _ Q (λ _. refuses SpaceTooShort (inr (inr (inl refl)))) (λ _.
    cond_both (leb (length (waiting w.lanes k)) 0) _ _ Q (λ _. refuses LaneEmpty (inr (inr (inr (inl refl))))) (λ some.
    delivered landed written w o call k (leb-false (lane_count w.tree) k lane) i (waits (leb-false (length (waiting w.lanes k)) 0 some)))))))
