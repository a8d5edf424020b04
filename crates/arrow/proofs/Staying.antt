-- The calls that leave every request where it is: a resting panel takes the book up, a holder writes, a holder rests.
-- Assumes nothing.
use Rattle.std.proofs.Common.{◌≡◌, ℕ, ◌<◌, true, List, [], ◌∷◌, ◌++◌, length, None, Ok, Option, sym, refl, ap, ◌∙◌, subst, arith}
use Rattle.std.proofs.lemmas.Bool.{true≢false}
use Rattle.book.specs.Kinds.{Book}
use Rattle.carrier.specs.Parcels.{Parcel}
use Rattle.directory.specs.Directory.{Place, front, Becomes}
use Rattle.tree.specs.Tree.{lawful_tree}
use Rattle.arrow.specs.declared.counts.Counts.{Counts}
use Rattle.arrow.specs.declared.state.State.{State}
use Rattle.arrow.specs.declared.state.State.TheVariants.{Holding, Resting}
use Rattle.arrow.specs.World.{Panel}
use Rattle.arrow.specs.Rules.{has_book, request_limit, about, with_row, count_request, count_grant, count_release}
use Rattle.arrow.proofs.Coupling.{Fits, Plain, LanesFit, book_on, Coupled, remaining, busy, waits}
use Rattle.arrow.proofs.Heads.{book_parcel}
use Rattle.arrow.proofs.Panels.{book_in_front, one_panel, page_stays}
use Rattle.arrow.proofs.Queue.{front_home}
use Rattle.arrow.proofs.Tallies.{states_moved, makes_more}

-- no lane has the book where it is not under way, whatever its page
pub lanes_kept : {ps : List ℕ} {place : ℕ → Place} {finder : ℕ → Option ℕ} {lane : ℕ → List Parcel} (carried : Option ℕ) (p : Parcel)
    → LanesFit ps place finder (book_on carried p) lane → carried ≡ None → (p' : Parcel) → LanesFit ps place finder (book_on None p') lane
lanes_kept {ps} {place} {finder} {lane} carried p fit e p' =
    let fit' : LanesFit ps place finder (book_on None p) lane = subst (λ c. LanesFit ps place finder (book_on c p) lane) e fit in
    record { finders = fit'.finders; parcels = fit'.parcels }

-- a holder has no other duty
pub holder_plain : (width : ℕ) (p : Panel) → p.state ≡ Holding → Plain width p
holder_plain width p e = record {
  alone = λ r. search arith;
  bare = λ b. absurd (true≢false (sym (ap has_book e) ∙ b));
}

module _ {ps : List ℕ} {kind : Book} {panel : ℕ → Panel} {lane : ℕ → List Parcel} {c : Counts} {landed : ℕ} {writes : List ℕ}
    (lawful : lawful_tree ps ≡ true) (x : Coupled ps kind panel lane c landed writes) where
  -- who has the book is in front, and the book is not under way
  pub keeper : (v : ℕ) → has_book (panel v).state ≡ true → (x.d.place v ≡ front) × (x.carried ≡ None)
  keeper v = book_in_front x.carried (x.d.place v) (panel v).state (x.panels.fits v)

  pub keeper_home : (v : ℕ) → has_book (panel v).state ≡ true → v ≡ x.home
  keeper_home v t = front_home ps lawful x.queue v (keeper v t).0

  keeper_fits : (v : ℕ) (s : State) → has_book (panel v).state ≡ true → has_book s ≡ true → Fits x.carried (x.d.place v) s
  keeper_fits v s t t' = rw ((keeper v t).0, (keeper v t).1) t'

  pub takes_up_coupled : {panel' : ℕ → Panel} (v : ℕ) → v < length ps → (panel v).state ≡ Resting → c.requests < request_limit
      → Becomes panel v (about Holding (panel v)) panel' → Coupled ps kind panel' lane (count_grant (count_request c)) landed writes
  takes_up_coupled v v<n rests few change = record {
    d = x.d;
    finder = x.finder;
    home = x.home;
    carried = x.carried;
    page = x.page;
    queue = x.queue;
    panels = one_panel x.panels change refl refl (keeper_fits v Holding (ap has_book rests) refl) (λ j _. x.panels.fits j) (holder_plain _ _ refl);
    lanes = x.lanes;
    book = page_stays x.book change refl;
    tally = (let t = x.tally in let s = states_moved (length ps) change v<n Resting rests in omega arith);
  }

  pub rests_coupled : {panel' : ℕ → Panel} (v : ℕ) → v < length ps → (panel v).state ≡ Holding → (panel v).follower ≡ None
      → Becomes panel v (about Resting (panel v)) panel' → Coupled ps kind panel' lane (count_release c) landed writes
  rests_coupled v v<n holds alone change = record {
    d = x.d;
    finder = x.finder;
    home = x.home;
    carried = x.carried;
    page = x.page;
    queue = x.queue;
    panels = one_panel x.panels change refl refl (keeper_fits v Resting (ap has_book holds) refl) (λ j _. x.panels.fits j)
        (record { alone = λ _. alone; bare = λ b. absurd (true≢false b) });
    lanes = x.lanes;
    book = page_stays x.book change refl;
    tally = (let t = x.tally in let s = states_moved (length ps) change v<n Holding holds in omega arith);
  }

  -- the page of a holder
  pub holder_page : (v : ℕ) → has_book (panel v).state ≡ true → (panel v).row ≡ x.page
  holder_page v t = ap (λ j. (panel j).row) (keeper_home v t) ∙ x.book.kept (keeper v t).1

  pub writes_coupled : {panel' : ℕ → Panel} (v entry : ℕ) (new : List ℕ) → v < length ps → (panel v).state ≡ Holding
      → kind.rule (panel v).row entry ≡ Ok new → kind.lawful new ≡ true
      → Becomes panel v (with_row new (panel v)) panel' → Coupled ps kind panel' lane c landed (writes ++ entry ∷ [])
  writes_coupled {panel'} v entry new v<n holds rule good change =
      let t : has_book (panel v).state ≡ true = ap has_book holds in
      record {
        d = x.d;
        finder = x.finder;
        home = x.home;
        carried = None;
        page = new;
        queue = x.queue;
        panels = one_panel x.panels change refl refl
            (subst (λ k. Fits k (x.d.place v) (panel v).state) (keeper v t).1 (x.panels.fits v))
            (λ j _. subst (λ k. Fits k (x.d.place j) (panel j).state) (keeper v t).1 (x.panels.fits j))
            (holder_plain _ _ holds);
        lanes = lanes_kept x.carried (book_parcel x.home x.page) x.lanes (keeper v t).1 (book_parcel x.home new);
        book = record {
          kept = λ _. ap (λ j. (panel' j).row) (sym (keeper_home v t)) ∙ ap (λ (p : Panel). p.row) change.there;
          on_lane = λ k e. search arith;
          lawful = good;
          made = makes_more kind (Ok kind.opening) writes x.page entry new x.book.made
              (ap (λ row. kind.rule row entry) (sym (holder_page v t)) ∙ rule);
        };
        tally = (
            let tally = x.tally in
            let s = states_moved (length ps) change v<n Holding holds in
            let h : (panel v).state ≡ Holding = holds in
            let b : busy v (panel v).state ≡ 1 = ap (busy v) holds in
            let w : waits v (panel v).state ≡ 0 = ap (waits v) holds in
            let r : remaining ps x.home x.carried ≡ 0 = ap (remaining ps x.home) (keeper v t).1 in
            omega arith);
      }
