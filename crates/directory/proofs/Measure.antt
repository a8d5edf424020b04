-- The weights of all requests, added up: every move but a request lowers the sum, so that it bounds how many such moves can
-- follow each other. Assumes nothing.
use Rattle.std.proofs.Common.{◌≡◌, ℕ, ◌+◌, ◌*◌, ◌<◌, ◌≤◌, List, length, sym, refl, ap, subst, arith}
use Rattle.std.specs.List.{AllByRecursion}
use Rattle.directory.specs.Cables.{Wired}
use Rattle.directory.specs.Directory.{Directory, Place, idle, flying, after, front, Becomes, Move, request, pass, land, hand_on, Does, Run, empty, more, Tree}
use Rattle.directory.specs.Law.{Serves, Within}
use Rattle.directory.specs.Queue.{Sound}
use Rattle.directory.proofs.Facts.{no_arrow_back}
use Rattle.directory.proofs.Runs.{move_sound}
use Rattle.directory.proofs.Sums.{total, total_lt, total_bound}
use Rattle.directory.proofs.Trees.{Joined, move_wired}
use Rattle.directory.proofs.Updates.{changed, changed_twice}
use Rattle.directory.proofs.Weights.{weight, find_weight_bounds, find_weight_falls}

-- the weights of the requests of n panels, added up
pub total_weight : ℕ → Directory → ℕ
total_weight n d = total (λ a. weight n (d.place a)) n

-- it falls where one panel's request gets lighter and no other gets heavier
falls : (n : ℕ) (d d' : Directory) (a : ℕ) → a < n → weight n (d'.place a) < weight n (d.place a)
    → ((b : ℕ) → weight n (d'.place b) ≤ weight n (d.place b)) → total_weight n d' < total_weight n d
unfolding total_weight
falls n d d' a a<n l others = total_lt (λ b. weight n (d.place b)) (λ b. weight n (d'.place b)) others a l n a<n

one_falls : (n : ℕ) (d d' : Directory) (a : ℕ) (q : Place) → a < n → Becomes d.place a q d'.place
    → weight n q < weight n (d.place a) → total_weight n d' < total_weight n d
one_falls n d d' a q a<n moves l =
    falls n d d' a a<n (subst (λ p. weight n p < weight n (d.place a)) (sym moves.there) l)
    (changed (λ b p. weight n p ≤ weight n (d.place b)) moves (omega arith) (λ b _. omega arith))

module _ {parent : ℕ → ℕ} (tree : Tree parent) (n : ℕ) where
  -- every move but a request lowers the total weight
  serves : (m : Move) (d d' : Directory) → Sound d → Wired n (Joined parent n) d → Serves m → Does m d d' → total_weight n d' < total_weight n d
  serves (request v) d d' s wired never m = absurd never
  serves (pass a w u) d d' s wired _ m =
      let cable = wired.finds a w u m.comes in
      let a<n : a < n = wired.requests a (λ i. let e = m.comes in search arith) in
      one_falls n d d' a (flying u (d.arrow u)) a<n m.moves
      (subst (λ p. weight n (flying u (d.arrow u)) < weight n p) (sym m.comes)
      (find_weight_falls tree n w u (d.arrow u) cable (wired.arrows u cable.1 m.goes_on) (no_arrow_back s a w u m.comes)))
  serves (land a w u) d d' s wired _ m =
      let cable = wired.finds a w u m.comes in
      let a<n : a < n = wired.requests a (λ i. let e = m.comes in search arith) in
      one_falls n d d' a (after u) a<n m.moves
      (subst (λ p. 1 < weight n p) (sym m.comes) (find_weight_bounds tree n w u cable).0)
  serves (hand_on v f) d d' s wired _ m =
      let f<n : f < n = wired.requests f (λ i. let e = m.follows in search arith) in
      let was : weight n (d.place f) ≡ 1 = ap (weight n) m.follows in
      let is : weight n (d'.place f) ≡ 0 = ap (weight n) m.gets in
      falls n d d' f f<n (omega arith)
      (changed_twice d.place d'.place v f (λ b p. weight n p ≤ weight n (d.place b)) m.leaves m.gets m.others
      (omega arith) (omega arith) (λ b _ _. omega arith))

  serving : (m : Move) → Serves m → Within n m
  serving (request v) never = absurd never
  serving (pass a w u) _ = tt
  serving (land a w u) _ = tt
  serving (hand_on v f) _ = tt

  -- a list of moves without a request is no longer than the total weight
  pub run_serves : {rs : List Move} {d e : Directory} → Sound d → Wired n (Joined parent n) d → AllByRecursion Serves rs → Run rs d e → length rs + total_weight n e ≤ total_weight n d
  run_serves s wired all empty = omega arith
  run_serves s wired all (more {m = m} {d = d} {e = e} does run) =
      omega (
        arith,
        serves m d e s wired all.0 does,
        run_serves (move_sound m s does) (move_wired n m s wired (serving m all.0) does) all.1 run,
      )

  -- n panels weigh at most 2 n each
  pub total_weight_bound : {d : Directory} → 0 < n → Wired n (Joined parent n) d → total_weight n d ≤ n * (2 * n)
  unfolding total_weight
  total_weight_bound {d} 0<n wired = total_bound (λ a. weight n (d.place a)) (2 * n) (λ a. go a (d.place a) refl) n
    where
      go : (a : ℕ) (q : Place) → d.place a ≡ q → weight n q ≤ 2 * n
      go a idle e = omega arith
      go a (flying w u) e = (find_weight_bounds tree n w u (wired.finds a w u e)).1
      go a (after p) e = omega arith
      go a front e = omega arith
