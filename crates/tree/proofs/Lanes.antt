-- The lanes of a tree: the ends of a lane, and the lane between two neighbours.
-- Assumes of the list of parents only that a parent is below its child, the fact `Falls`.
use Rattle.std.proofs.Common.{◌≡◌, ℕ, ◌%◌, ◌<◌, true, false, eqb, ◌≢◌, List, refl, ap, ◌∙◌, inl, inr, arith}
use Rattle.std.proofs.lemmas.Bool.{cases_Bool, cases_eq, cond-true, cond-false, eq-eqb, ne_eqb}
use Rattle.tree.specs.Tree.{parent, child, neighbours, lane_count, up_lane, down_lane, lane_child, lane_source, lane_target, lane_between}
use Rattle.tree.proofs.Climbs.{Falls}
use Rattle.tree.proofs.Neighbours.{Cable, child_read, child_made, neighbours_read, neighbours_made}

-- lane k runs from w to u
abbrev pub Ends : List ℕ → ℕ → ℕ → ℕ → Type 0
Ends ps k w u = (lane_source ps k ≡ w) × (lane_target ps k ≡ u)

even_ends : (ps : List ℕ) (k : ℕ) → k % 2 ≡ 0 → Ends ps k (lane_child k) (parent ps (lane_child k))
unfolding lane_source lane_target
even_ends ps k e =
    let t : eqb (k % 2) 0 ≡ true = eq-eqb (k % 2) 0 e in
    (cond-true (eqb (k % 2) 0) _ _ t, cond-true (eqb (k % 2) 0) _ _ t)

odd_ends : (ps : List ℕ) (k : ℕ) → k % 2 ≢ 0 → Ends ps k (parent ps (lane_child k)) (lane_child k)
unfolding lane_source lane_target
odd_ends ps k n =
    let t : eqb (k % 2) 0 ≡ false = ne_eqb (k % 2) 0 n in
    (cond-false (eqb (k % 2) 0) _ _ t, cond-false (eqb (k % 2) 0) _ _ t)

lane_cable : (ps : List ℕ) (k : ℕ) → k < lane_count ps → Cable ps (lane_child k) (parent ps (lane_child k))
lane_cable ps k h = (omega arith, omega arith, refl)

up_ends : (ps : List ℕ) (w u : ℕ) → Cable ps w u → Ends ps (up_lane w) w u
up_ends ps w u c =
    let i : lane_child (up_lane w) ≡ w = omega arith in
    let e = even_ends ps (up_lane w) (omega arith) in
    (e.0 ∙ i, e.1 ∙ ap (λ x. parent ps x) i ∙ c.2)

down_ends : (ps : List ℕ) (w u : ℕ) → Cable ps u w → Ends ps (down_lane u) w u
down_ends ps w u c =
    let i : lane_child (down_lane u) ≡ u = omega arith in
    let e = odd_ends ps (down_lane u) (omega arith) in
    (e.0 ∙ ap (λ x. parent ps x) i ∙ c.2, e.1 ∙ i)

-- the ends of a lane are neighbours
pub ends_neighbours : (ps : List ℕ) (k : ℕ) → k < lane_count ps → neighbours ps (lane_source ps k) (lane_target ps k) ≡ true
ends_neighbours ps k h =
    elim (cases_eq (k % 2) 0) [
      | inl e ↦
          let n : neighbours ps (lane_child k) (parent ps (lane_child k)) ≡ true = neighbours_made ps _ _ (inl (lane_cable ps k h)) in
          rw ((even_ends ps k e).0, (even_ends ps k e).1) n
      | inr o ↦
          let n : neighbours ps (parent ps (lane_child k)) (lane_child k) ≡ true = neighbours_made ps _ _ (inr (lane_cable ps k h)) in
          rw ((odd_ends ps k o).0, (odd_ends ps k o).1) n
    ]

between_up : (ps : List ℕ) (w u : ℕ) → Cable ps w u → lane_between ps w u ≡ up_lane w
unfolding lane_between
between_up ps w u c = cond-true (child ps w u) _ _ (child_made ps w u c)

module _ (ps : List ℕ) (falls : Falls ps) where
  between_down : (w u : ℕ) → Cable ps u w → lane_between ps w u ≡ down_lane u
  unfolding lane_between
  between_down w u c =
      elim (cases_Bool (child ps w u)) [
        | inl t ↦ omega (arith, child_read ps w u t, falls w, falls u)
        | inr f ↦ cond-false (child ps w u) _ _ f
      ]

  -- the lane between neighbours is one of the lanes, and runs from the one to the other
  pub between_is : (w u : ℕ) → neighbours ps w u ≡ true → (lane_between ps w u < lane_count ps) × Ends ps (lane_between ps w u) w u
  between_is w u t =
      elim (neighbours_read ps w u t) [
        | inl c ↦ rw (between_up ps w u c) (omega arith, up_ends ps w u c)
        | inr c ↦ rw (between_down w u c) (omega arith, down_ends ps w u c)
      ]

  -- the lane between the ends of lane k is k
  pub ends_between : (k : ℕ) → k < lane_count ps → lane_between ps (lane_source ps k) (lane_target ps k) ≡ k
  ends_between k h =
      elim (cases_eq (k % 2) 0) [
        | inl e ↦ rw ((even_ends ps k e).0, (even_ends ps k e).1) (between_up ps _ _ (lane_cable ps k h) ∙ omega arith)
        | inr o ↦ rw ((odd_ends ps k o).0, (odd_ends ps k o).1) (between_down _ _ (lane_cable ps k h) ∙ omega arith)
      ]
