-- What else holds in every world that a run leads to, read off the invariant. Assumes nothing.
use Rattle.std.proofs.Common.{◌≡◌, ℕ, ◌<◌, true, ◌⊎◌, List, length, sym, refl, ap, ◌∙◌, subst, inl, inr, arith}
use native.Mathlib.Decide.{ℕ_discrete}
use Rattle.carrier.specs.Parcels.{Parcel, waiting}
use Rattle.directory.proofs.Facts.{idle_arrow}
use Rattle.tree.specs.Tree.{neighbours}
use Rattle.arrow.specs.World.{World, panel_at}
use Rattle.arrow.specs.Runs.{Entry}
use Rattle.arrow.specs.Clauses.{Waits, landed_distances, accepted_writes}
use Rattle.arrow.specs.Facts.{LawfulParcel, Reached, FactsOfRuns}
use Rattle.arrow.proofs.Arrangement.{lane_short}
use Rattle.arrow.proofs.Coupling.{Coupled, Opened, book_on}
use Rattle.arrow.proofs.Heads.{book_parcel}
use Rattle.arrow.proofs.Panels.{idle_place}
use Rattle.arrow.proofs.Runs.{AsNew, run_reaches}
use Rattle.arrow.proofs.Staying.{holder_page}
use Rattle.arrow.proofs.Waiting.{home_named, parcel_kind}

module _ (landed : ℕ) (written : List ℕ) (w : World) (o : Opened landed written w) where
  abbrev x : Coupled w.tree w.kind (panel_at w) (waiting w.lanes) w.counts landed written
  x = o.coupled

  lawful_parcel : (k i : ℕ) → Waits w k i → LawfulParcel w k i
  lawful_parcel k i waits = elim (parcel_kind landed written w o k i waits) [
    | inl f ↦ inl (f.0, f.1.asker_exists, f.1.reads, ap (λ (p : Parcel). p.body) f.1.parcel_is)
    | inr b ↦ inr (
      x.home,
      home_named landed written w o,
      b.reads,
      subst (λ (p : Parcel). w.kind.lawful p.body ≡ true) (sym b.parcel_is) x.book.lawful,
    )
  ]

  few_parcels : (k i : ℕ) → Waits w k i → i < 2
  few_parcels k i (k<L, waits) =
      omega (arith, lane_short (x.finder k) (book_on x.carried (book_parcel x.home x.page) k) (waiting w.lanes k) (x.lanes.parcels k k<L))

  arrow_along : (v : ℕ) → v < length w.tree → ((panel_at w v).arrow ≡ v) ⊎ (neighbours w.tree v (panel_at w v).arrow ≡ true)
  arrow_along v v<n = elim (ℕ_discrete (panel_at w v).arrow v) [
    | yes e ↦ inl e
    | no n ↦ (
        let same = x.panels.arrows v in
        inr (subst (λ y. neighbours w.tree v y ≡ true) (sym same) (x.queue.wired.arrows v v<n (λ e. n (same ∙ e)))))
  ]

  pub open_reached : Reached w
  open_reached = record {
    panels = o.panels;
    parcels = λ k i waits. (lawful_parcel k i waits, few_parcels k i waits);
    arrows = arrow_along;
    idle_arrows = λ v _ idles self.
        idle_arrow x.queue.sound v (idle_place x.carried (x.d.place v) (panel_at w v).state (x.panels.fits v) idles)
        (sym (x.panels.arrows v) ∙ self);
    rests_alone = λ v v<n. (x.panels.plain v v<n).alone;
    book_row = λ v _ t. subst (λ r. w.kind.lawful r ≡ true) (sym (holder_page o.tree x v t)) x.book.lawful;
    other_rows = λ v v<n. (x.panels.plain v v<n).bare;
    few_requests = (let t = x.tally in omega arith);
    few_finds = (let t = x.tally in omega arith);
    few_books = (let t = x.tally in omega arith);
    few_grants = (let t = x.tally in omega arith);
    few_releases = (let t = x.tally in omega arith);
  }

-- a group that is as new has no panels and no lanes
new_reached : (history : List Entry) (w : World) → AsNew history w → Reached w
new_reached history w n = subst Reached (sym n.is_new) (record {
  panels = refl;
  parcels = λ k i waits. absurd (omega (arith, waits.0));
  arrows = λ v l. absurd (omega arith);
  idle_arrows = λ v l. absurd (omega arith);
  rests_alone = λ v l. absurd (omega arith);
  book_row = λ v l. absurd (omega arith);
  other_rows = λ v l. absurd (omega arith);
  few_requests = omega arith;
  few_finds = omega arith;
  few_books = omega arith;
  few_grants = omega arith;
  few_releases = omega arith;
})

pub facts_of_runs : FactsOfRuns
facts_of_runs history w run = elim (run_reaches run) [
  | inl n ↦ new_reached history w n
  | inr o ↦ open_reached (landed_distances w.tree history) (accepted_writes history) w o
]
