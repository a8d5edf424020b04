-- What the places of the requests say of the panels' states, and changes of one panel that leave the directory. Assumes nothing.
use Rattle.std.proofs.Common.{◌≡◌, ℕ, ◌<◌, true, List, length, Some, None, Option, sym, refl, ap, ◌∙◌, subst, arith}
use Rattle.std.proofs.lemmas.Bool.{false≢true}
use Rattle.book.specs.Kinds.{Book}
use Rattle.directory.specs.Directory.{Directory, Place, idle, flying, after, front, Becomes}
use Rattle.directory.proofs.Updates.{changed}
use Rattle.arrow.specs.declared.state.State.{State}
use Rattle.arrow.specs.declared.state.State.TheVariants.{Idle, Waiting}
use Rattle.arrow.specs.World.{Panel}
use Rattle.arrow.specs.Rules.{has_book}
use Rattle.arrow.proofs.Changes.{same_part}
use Rattle.arrow.proofs.Coupling.{Fits, Plain, PanelsFit, PageFits}
use Rattle.arrow.proofs.Tied.{Tied}

-- a table that says the same is tied alike
pub retable : {slots : ℕ} {slot : ℕ → Place} {table table' : ℕ → Option ℕ} {place : ℕ → Place} → Tied slots slot table place
    → ((k : ℕ) → table' k ≡ table k) → Tied slots slot table' place
retable tied same = record { to = λ k a l e. tied.to k a l (sym (same k) ∙ e); from = λ k a l e. same k ∙ tied.from k a l e }

-- a panel with the book is in front, and the book is not under way
pub book_in_front : (carried : Option ℕ) (q : Place) (s : State) → Fits carried q s → has_book s ≡ true → (q ≡ front) × (carried ≡ None)
book_in_front carried idle s f t = absurd (false≢true (sym (ap has_book f) ∙ t))
book_in_front carried (flying w u) s f t = absurd (false≢true (sym (ap has_book f) ∙ t))
book_in_front carried (after p) s f t = absurd (false≢true (sym (ap has_book f) ∙ t))
book_in_front None front s f t = (refl, refl)
book_in_front (Some k) front s f t = absurd (false≢true (sym (ap has_book f) ∙ t))

-- an idle panel has no request
pub idle_place : (carried : Option ℕ) (q : Place) (s : State) → Fits carried q s → s ≡ Idle → q ≡ idle
idle_place carried idle s f t = refl
idle_place carried (flying w u) s f t = search arith
idle_place carried (after p) s f t = search arith
idle_place None front s f t = absurd (false≢true (sym (ap has_book t) ∙ f))
idle_place (Some k) front s f t = search arith

-- a waiting panel has a request
pub waiting_place : (carried : Option ℕ) (q : Place) (s : State) → Fits carried q s → s ≡ Waiting → ¬ (q ≡ idle)
waiting_place carried idle s f t = search arith
waiting_place carried (flying w u) s f t = λ e. search arith
waiting_place carried (after p) s f t = λ e. search arith
waiting_place carried front s f t = λ e. search arith

-- away from the front it does not matter whether the book is under way
pub fits_elsewhere : (carried carried' : Option ℕ) (q : Place) (s : State) → ¬ (q ≡ front) → Fits carried q s → Fits carried' q s
fits_elsewhere carried carried' idle s n f = f
fits_elsewhere carried carried' (flying w u) s n f = f
fits_elsewhere carried carried' (after p) s n f = f
fits_elsewhere carried carried' front s n f = absurd (n refl)

pub fits_flying : (carried : Option ℕ) (q : Place) (s : State) (w u : ℕ) → q ≡ flying w u → Fits carried q s → s ≡ Waiting
fits_flying carried q s w u e f = subst (λ p. Fits carried p s) e f

pub fits_after : (carried : Option ℕ) (q : Place) (s : State) (p : ℕ) → q ≡ after p → Fits carried q s → s ≡ Waiting
fits_after carried q s p e f = subst (λ p. Fits carried p s) e f

-- a change of one panel that leaves its arrow and its follower
pub one_panel : {ps : List ℕ} {width : ℕ} {carried carried' : Option ℕ} {d : Directory} {panel panel' : ℕ → Panel} {v : ℕ} {p : Panel}
    → PanelsFit ps width carried d panel → Becomes panel v p panel' → p.arrow ≡ (panel v).arrow → p.follower ≡ (panel v).follower
    → Fits carried' (d.place v) p.state → ((j : ℕ) → ¬ (j ≡ v) → Fits carried' (d.place j) (panel j).state)
    → Plain width p → PanelsFit ps width carried' d panel'
one_panel {ps} {width} {carried} {carried'} {d} {panel} {panel'} {v} {p} fit change arrow follower here others plain = record {
  arrows = λ j. same_part (λ (x : Panel). x.arrow) change arrow j ∙ fit.arrows j;
  fits = changed (λ j x. Fits carried' (d.place j) x.state) change here others;
  plain = changed (λ j x. j < length ps → Plain width x) change (λ _. plain) (λ j _ l. fit.plain j l);
  followers = retable fit.followers (same_part (λ (x : Panel). x.follower) change follower);
}

-- a change of one panel that leaves its row
pub page_stays : {ps : List ℕ} {kind : Book} {home : ℕ} {carried : Option ℕ} {page : List ℕ} {panel panel' : ℕ → Panel} {writes : List ℕ}
    {v : ℕ} {p : Panel} → PageFits ps kind home carried page panel writes → Becomes panel v p panel' → p.row ≡ (panel v).row
    → PageFits ps kind home carried page panel' writes
page_stays {home = home} fit change row = record {
  kept = λ e. same_part (λ (x : Panel). x.row) change row home ∙ fit.kept e;
  on_lane = fit.on_lane;
  lawful = fit.lawful;
  made = fit.made;
}
