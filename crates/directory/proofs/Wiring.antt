-- Every move keeps to the panels and their cables: a find goes on along an arrow, and an arrow turns to where a find came from.
-- Assumes nothing.
use Rattle.std.proofs.Common.{◌≡◌, ℕ, ◌<◌, sym, refl, subst, arith}
use Rattle.directory.specs.Cables.{Cabling, Wired}
use Rattle.directory.specs.Directory.{Directory, Place, idle, flying, after, front, Becomes, Requests, Passes, Lands, HandsOn, LandsAtRest, Opening}
use Rattle.directory.specs.Queue.{Sound}
use Rattle.directory.proofs.Facts.{idle_arrow}
use Rattle.directory.proofs.Updates.{at_or_else, changed, changed_twice}

module _ (n : ℕ) (Cable : ℕ → ℕ → Type 0) where
  -- what the cables ask of the arrow of u, and of a request of a, by its place
  abbrev ArrowWired : ℕ → ℕ → Type 0
  ArrowWired u x = u < n → ¬ (x ≡ u) → Cable u x

  abbrev RequestWired : ℕ → Place → Type 0
  RequestWired a idle = Unit {0}
  RequestWired a (flying w u) = (a < n) × Cable w u
  RequestWired a (after p) = a < n
  RequestWired a front = a < n

  still_wired : {d : Directory} → Wired n Cable d → (a : ℕ) → RequestWired a (d.place a)
  still_wired {d} wired a = go (d.place a) refl
    where
      go : (q : Place) → d.place a ≡ q → RequestWired a q
      go idle e = tt
      go (flying w u) e = (wired.requests a (λ i. search arith), wired.finds a w u e)
      go (after p) e = wired.requests a (λ i. search arith)
      go front e = wired.requests a (λ i. search arith)

  wired_from : (d : Directory) → ((u : ℕ) → ArrowWired u (d.arrow u)) → ((a : ℕ) → RequestWired a (d.place a)) → Wired n Cable d
  wired_from d arrows places = record {
    arrows = arrows;
    finds = λ a w u e. (subst (RequestWired a) e (places a)).1;
    requests = λ a asks. go a (d.place a) refl (places a) asks;
  }
    where
      go : (a : ℕ) (q : Place) → d.place a ≡ q → RequestWired a q → ¬ (d.place a ≡ idle) → a < n
      go a idle e k asks = absurd (asks e)
      go a (flying w u) e k asks = k.0
      go a (after p) e k asks = k
      go a front e k asks = k

module _ {n : ℕ} {Cable : ℕ → ℕ → Type 0} (cabling : Cabling n Cable) where
  pub request_wired : {d d' : Directory} {v : ℕ} → Sound d → v < n → Wired n Cable d → Requests v d d' → Wired n Cable d'
  request_wired {d} {d'} {v} s v<n wired m =
      wired_from n Cable d'
      (changed (ArrowWired n Cable) m.turns (λ _ n. absurd (n refl)) (λ u _. wired.arrows u))
      (changed (RequestWired n Cable) m.moves (v<n, wired.arrows v v<n (idle_arrow s v m.was_idle)) (λ a _. still_wired n Cable wired a))

  -- the arrow of u turns to where the find of a came from
  arrows_turned : {d : Directory} {turned : ℕ → ℕ} {a w u : ℕ} → Wired n Cable d → d.place a ≡ flying w u
      → Becomes d.arrow u w turned → (y : ℕ) → ArrowWired n Cable y (turned y)
  arrows_turned {a = a} {w} {u} wired comes turns =
      changed (ArrowWired n Cable) turns (λ _ _. cabling.back w u (wired.finds a w u comes)) (λ y _. wired.arrows y)

  pub pass_wired : {d d' : Directory} {a w u : ℕ} → Wired n Cable d → Passes a w u d d' → Wired n Cable d'
  pass_wired {d} {d'} {a} {w} {u} wired m =
      wired_from n Cable d'
      (arrows_turned wired m.comes m.turns)
      (changed (RequestWired n Cable) m.moves
      (wired.requests a (λ i. let e = m.comes in search arith), wired.arrows u (cabling.within w u (wired.finds a w u m.comes)).1 m.goes_on)
      (λ b _. still_wired n Cable wired b))

  pub land_wired : {d d' : Directory} {a w u : ℕ} → Wired n Cable d → Lands a w u d d' → Wired n Cable d'
  land_wired {d} {d'} {a} {w} {u} wired m =
      wired_from n Cable d'
      (arrows_turned wired m.comes m.turns)
      (changed (RequestWired n Cable) m.moves (wired.requests a (λ i. let e = m.comes in search arith)) (λ b _. still_wired n Cable wired b))

  pub hand_on_wired : {d d' : Directory} {v f : ℕ} → Wired n Cable d → HandsOn v f d d' → Wired n Cable d'
  hand_on_wired {d} {d'} {v} {f} wired m =
      wired_from n Cable d'
      (λ u. subst (ArrowWired n Cable u) (sym (m.arrows u)) (wired.arrows u))
      (changed_twice d.place d'.place v f (RequestWired n Cable) m.leaves m.gets m.others
      tt (wired.requests f (λ i. let e = m.follows in search arith)) (λ b _ _. still_wired n Cable wired b))

  pub land_at_rest_wired : {d d' : Directory} {a w u : ℕ} → Wired n Cable d → LandsAtRest a w u d d' → Wired n Cable d'
  land_at_rest_wired {d} {d'} {a} {w} {u} wired m =
      wired_from n Cable d'
      (arrows_turned wired m.comes m.turns)
      (changed_twice d.place d'.place u a (RequestWired n Cable) m.leaves m.gets m.others
      tt (wired.requests a (λ i. let e = m.comes in search arith)) (λ b _ _. still_wired n Cable wired b))

-- the opening directory keeps to the cables, if one joins each panel but 0 to its parent
pub opening_wired : {n : ℕ} {Cable : ℕ → ℕ → Type 0} {parent : ℕ → ℕ} {d : Directory} → 0 < n
    → ((v : ℕ) → 0 < v → v < n → Cable v (parent v)) → Opening parent d → Wired n Cable d
opening_wired {n} {Cable} {parent} {d} 0<n cables o =
    wired_from n Cable d
    (at_or_else (λ u. ArrowWired n Cable u (d.arrow u)) 0 (λ _ n. absurd (n o.root))
    (λ u u≢0 u<n _. subst (Cable u) (sym (o.arrows u (omega arith))) (cables u (omega arith) u<n)))
    (at_or_else (λ a. RequestWired n Cable a (d.place a)) 0 (subst (RequestWired n Cable 0) (sym o.book) 0<n)
    (λ a a≢0. subst (RequestWired n Cable a) (sym (o.others a (omega arith))) tt))
