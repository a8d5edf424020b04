-- The three clauses, read off the invariant. Assumes nothing.
use Rattle.std.proofs.Common.{◌≡◌, ℕ, ◌<◌, true, List, [], length, Some, None, Ok, Option, Result, sym, refl, ap, ◌∙◌, subst, inl, inr, arith}
use Rattle.std.proofs.lemmas.Bool.{false≢true}
use Rattle.words.specs.declared.event.Event.{Event}
use Rattle.words.specs.declared.refusal.Refusal.{Refusal}
use Rattle.carrier.specs.Parcels.{Parcel, waiting}
use Rattle.directory.specs.Directory.{Place, idle, flying, after, front}
use Rattle.directory.proofs.Facts.{find_away}
use Rattle.directory.proofs.Waiting.{nobody_left_waiting}
use Rattle.tree.specs.Tree.{distance, lane_source, lane_target}
use Rattle.tree.proofs.Facts.{equal_from_distance}
use Rattle.words.specs.Messages.{message_of}
use Rattle.words.specs.declared.message.Message.TheVariants.{Book}
use Rattle.arrow.specs.declared.state.State.{State}
use Rattle.arrow.specs.declared.state.State.TheVariants.{Idle, Waiting, Holding, Resting}
use Rattle.arrow.specs.World.{World, panel_at}
use Rattle.arrow.specs.Rules.{has_book, parcel_at}
use Rattle.arrow.specs.Runs.{Call, Entry, CarriedOut, then}
use Rattle.arrow.specs.Clauses.{ExactlyWhen, Waits, NoFindWaits, NoParcelWaits, NoPanelHolds, landed_distances, accepted_writes, MakesOf, Spot, at_panel, in_parcel, HasBook, OneBook, Clauses, LawOverRuns, GoesOn}
use Rattle.arrow.proofs.Arrangement.{one_book_place}
use Rattle.arrow.proofs.Answering.{few_named}
use Rattle.arrow.proofs.Changes.{total_zero, zero_total}
use Rattle.arrow.proofs.Coupling.{Fits, Coupled, Opened, busy, flown}
use Rattle.arrow.proofs.Heads.{find_parcel, book_parcel, find_read, book_read}
use Rattle.arrow.proofs.Panels.{fits_flying, waiting_place}
use Rattle.arrow.proofs.Queue.{find_panels}
use Rattle.arrow.proofs.Runs.{AsNew, run_reaches}
use Rattle.arrow.proofs.Staying.{keeper, keeper_home}
use Rattle.arrow.proofs.Waiting.{home_named, parcel_kind, find_waits, book_has, book_waits}

module _ (landed : ℕ) (written : List ℕ) (w : World) (o : Opened landed written w) where
  abbrev x : Coupled w.tree w.kind (panel_at w) (waiting w.lanes) w.counts landed written
  x = o.coupled

  -- CLAUSE A. A find under way has come at least one cable, so the distances so far add up to 0 only where no find waits.
  flown_none : NoFindWaits w → (a : ℕ) (q : Place) → x.d.place a ≡ q → flown w.tree a q ≡ 0
  flown_none none a idle e = refl
  flown_none none a (flying v u) e = (let f = find_waits landed written w o a v u e in absurd (none f.0 f.1 a f.2 f.3))
  flown_none none a (after p) e = refl
  flown_none none a front e = refl

  pub steps : ExactlyWhen (w.counts.finds ≡ landed) (NoFindWaits w)
  steps = (forth, back)
    where
      forth : w.counts.finds ≡ landed → NoFindWaits w
      forth e k i asker waits reads = elim (parcel_kind landed written w o k i waits) [
        | inl f ↦ (
            let a = f.0 in
            let u = lane_target w.tree k in
            let zero = zero_total (λ b. flown w.tree b (x.d.place b)) (length w.tree) (let t = x.tally in omega arith) a f.1.asker_exists in
            let far : flown w.tree a (x.d.place a) ≡ distance w.tree a u = ap (flown w.tree a) f.1.under_way in
            find_away x.queue.sound a (lane_source w.tree k) u f.1.under_way (equal_from_distance w.tree o.tree a u (omega arith)))
        | inr b ↦ (let r = b.reads in search arith)
      ]

      back : NoFindWaits w → w.counts.finds ≡ landed
      back none =
          let zero = total_zero (λ a. flown w.tree a (x.d.place a)) (length w.tree) (λ a _. flown_none none a (x.d.place a) refl) in
          let t = x.tally in omega arith

  -- CLAUSE B. Requests and releases differ by the panels that wait or hold.
  pub front_waits : (k : ℕ) → x.carried ≡ Some k → (panel_at w x.home).state ≡ Waiting
  front_waits k on =
      subst (λ q. Fits (Some k) q (panel_at w x.home).state) x.queue.home_front
      (subst (λ c. Fits c (x.d.place x.home) (panel_at w x.home).state) on (x.panels.fits x.home))

  pub front_has : x.carried ≡ None → has_book (panel_at w x.home).state ≡ true
  front_has kept =
      subst (λ q. Fits None q (panel_at w x.home).state) x.queue.home_front
      (subst (λ c. Fits c (x.d.place x.home) (panel_at w x.home).state) kept (x.panels.fits x.home))

  rests_if : (s : State) → has_book s ≡ true → ¬ (s ≡ Holding) → s ≡ Resting
  rests_if Idle t n = absurd (false≢true t)
  rests_if Waiting t n = absurd (false≢true t)
  rests_if Holding t n = absurd (n refl)
  rests_if Resting t n = refl

  -- where no parcel waits and no panel holds, the book rests, so that nobody is left waiting
  nobody_busy : NoParcelWaits w → NoPanelHolds w → (v : ℕ) → v < length w.tree → (s : State) → (panel_at w v).state ≡ s → busy v s ≡ 0
  nobody_busy none calm v v<n Idle e = refl
  nobody_busy none calm v v<n Holding e = absurd (calm v v<n e)
  nobody_busy none calm v v<n Resting e = refl
  nobody_busy none calm v v<n Waiting e =
      let kept : x.carried ≡ None = not_carried x.carried refl in
      let book = front_has kept in
      let rests = rests_if (panel_at w x.home).state book (calm x.home (home_named landed written w o)) in
      let alone = (x.panels.plain x.home (home_named landed written w o)).alone rests in
      let v≡home = nobody_left_waiting x.queue.sound x.home x.queue.home_front
      (λ a s u f. (let p = find_waits landed written w o a s u f in none p.0 p.1 p.2))
      (λ a f. (let g = x.panels.followers.from x.home a (home_named landed written w o) f in search arith))
      v (waiting_place x.carried (x.d.place v) (panel_at w v).state (x.panels.fits v) e) in
      let t : has_book Waiting ≡ true = ap has_book (sym e) ∙ ap (λ j. has_book (panel_at w j).state) v≡home ∙ book in
      absurd (false≢true t)
    where
      not_carried : (c : Option ℕ) → x.carried ≡ c → c ≡ None
      not_carried None e = refl
      not_carried (Some k) e = (let p = book_waits landed written w o k e in absurd (none k p.0 p.1))

  pub rest : ExactlyWhen (w.counts.requests ≡ w.counts.releases) (NoParcelWaits w × NoPanelHolds w)
  rest = (forth, back)
    where
      idle_all : w.counts.requests ≡ w.counts.releases → (v : ℕ) → v < length w.tree → busy v (panel_at w v).state ≡ 0
      idle_all e = zero_total (λ v. busy v (panel_at w v).state) (length w.tree) (let t = x.tally in omega arith)

      not_waiting : w.counts.requests ≡ w.counts.releases → (v : ℕ) → v < length w.tree → ¬ ((panel_at w v).state ≡ Waiting)
      not_waiting e v v<n s = (let b : busy v (panel_at w v).state ≡ 1 = ap (busy v) s in omega (arith, idle_all e v v<n))

      forth : w.counts.requests ≡ w.counts.releases → NoParcelWaits w × NoPanelHolds w
      forth e = (
        (λ k i waits. elim (parcel_kind landed written w o k i waits) [
          | inl f ↦ not_waiting e f.0 f.1.asker_exists
              (fits_flying x.carried (x.d.place f.0) (panel_at w f.0).state (lane_source w.tree k) (lane_target w.tree k) f.1.under_way (x.panels.fits f.0))
          | inr b ↦ not_waiting e x.home (home_named landed written w o) (front_waits k b.under_way)
        ]),
        (λ v v<n s. (let b : busy v (panel_at w v).state ≡ 1 = ap (busy v) s in omega (arith, idle_all e v v<n))),
      )

      back : NoParcelWaits w × NoPanelHolds w → w.counts.requests ≡ w.counts.releases
      back calm =
          let zero = total_zero (λ v. busy v (panel_at w v).state) (length w.tree) (λ v v<n. nobody_busy calm.0 calm.1 v v<n (panel_at w v).state refl) in
          let t = x.tally in omega arith

  -- CLAUSE C. The book is with the panel in front, or under way to it.
  not_a_find : (a : ℕ) → a < length w.tree → ¬ (book_parcel x.home x.page ≡ find_parcel a)
  not_a_find a a<n e =
      let b = book_read x.home (few_named w.tree o.tree x.home (home_named landed written w o)) in
      let f = find_read a (few_named w.tree o.tree a a<n) in
      let same = ap (λ (p : Parcel). message_of p.head) e in
      search arith

  pub one_book : (history : List Entry) → accepted_writes history ≡ written → OneBook history w
  one_book history same = go x.carried refl
    where
      made : MakesOf w.kind (Ok w.kind.opening) (accepted_writes history) x.page
      made = subst (λ ws. MakesOf w.kind (Ok w.kind.opening) ws x.page) (sym same) x.book.made

      go : (c : Option ℕ) → x.carried ≡ c → OneBook history w
      go None kept = record {
        spot = at_panel x.home;
        has = (home_named landed written w o, front_has kept);
        only = only;
        page = subst (MakesOf w.kind (Ok w.kind.opening) (accepted_writes history)) (sym (x.book.kept kept)) made;
      }
        where
          only : (other : Spot) → HasBook w other → other ≡ at_panel x.home
          only (at_panel v) (v<n, t) = ap at_panel (keeper_home o.tree x v t)
          only (in_parcel k i) (waits, reads) = elim (parcel_kind landed written w o k i waits) [
            | inl f ↦ (let r = f.1.reads in let r' = reads.1 in search arith)
            | inr b ↦ (let r = b.under_way in search arith)
          ]
      go (Some k) on = record {
        spot = in_parcel k p.0;
        has = (p.1, (x.home, reads_book));
        only = only;
        page = subst (MakesOf w.kind (Ok w.kind.opening) (accepted_writes history)) (sym (ap (λ (q : Parcel). q.body) p.2)) made;
      }
        where
          p : (i : ℕ) × Waits w k i × (parcel_at w k i ≡ book_parcel x.home x.page)
          p = book_waits landed written w o k on

          reads_book : message_of (parcel_at w k p.0).head ≡ Ok (Book x.home)
          reads_book = elim (parcel_kind landed written w o k p.0 p.1) [
            | inl f ↦ absurd (not_a_find f.0 f.1.asker_exists (sym p.2 ∙ f.1.parcel_is))
            | inr b ↦ b.reads
          ]

          other_finds : (a : ℕ) → x.finder k ≡ Some a → ¬ (book_parcel x.home x.page ≡ find_parcel a)
          other_finds a f =
              not_a_find a
              (find_panels w.tree o.tree x.queue a (lane_source w.tree k) (lane_target w.tree k)
              (x.lanes.finders.to k a (x.book.on_lane k on) f)).0

          only : (other : Spot) → HasBook w other → other ≡ in_parcel k p.0
          only (at_panel v) (v<n, t) = (let kept = (keeper o.tree x v t).1 in search arith)
          only (in_parcel j i) (waits, reads) = elim (parcel_kind landed written w o j i waits) [
            | inl f ↦ (let r = f.1.reads in let r' = reads.1 in search arith)
            | inr b ↦ (
                let there = b.under_way in
                let j≡k : j ≡ k = cc in
                let waits' : Waits w k i = subst (λ l. Waits w l i) j≡k waits in
                let is : parcel_at w k i ≡ book_parcel x.home x.page = subst (λ l. parcel_at w l i ≡ book_parcel x.home x.page) j≡k b.parcel_is in
                let i≡ : i ≡ p.0 = one_book_place (x.finder k) (book_parcel x.home x.page) (waiting w.lanes k) (book_has landed written w o k on)
                other_finds i p.0 waits'.1 p.1.1 is p.2 in
                cc)
          ]

-- the clauses of a group that is as new
new_clauses : (history : List Entry) (w : World) → AsNew history w → Clauses history w
new_clauses history w n = subst (Clauses history) (sym n.is_new) (record {
  steps = ((λ _ k i a waits _. omega (arith, waits.0)), λ _. sym (n.none_landed []));
  rest = ((λ _. ((λ k i waits. omega (arith, waits.0)), λ v l _. omega arith)), λ _. refl);
  book = λ e. absurd (false≢true e);
})

pub law_over_runs : LawOverRuns
law_over_runs history w run = elim (run_reaches run) [
  | inl n ↦ new_clauses history w n
  | inr o ↦ record {
    steps = steps (landed_distances w.tree history) (accepted_writes history) w o;
    rest = rest (landed_distances w.tree history) (accepted_writes history) w o;
    book = λ _. one_book (landed_distances w.tree history) (accepted_writes history) w o history refl;
  }
]

-- a call that is carried out goes on from every run
pub goes_on : (w : World) (call : Call) (answer : Result Event Refusal) (w' : World) → CarriedOut w call answer w' → GoesOn w call answer w'
goes_on w call answer w' carried history run =
    let run' = then run call answer w' carried in (run', law_over_runs _ w' run')
