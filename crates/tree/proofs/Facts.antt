-- The facts on trees that other proofs cite, over a list of parents and the fact that it is lawful.
-- Assumes nothing. Each lemma takes the list and that fact first, then the panels or lanes, then its premises.
use Rattle.std.proofs.Common.{◌≡◌, ℕ, suc, ◌+◌, ◌<◌, ◌≤◌, true, ◌≢◌, ◌⊎◌, List, length, sym, ap, ◌∙◌, subst, inl, inr, arith}
use Rattle.std.proofs.lemmas.List.{get_or_past}
use Rattle.std.proofs.lemmas.Bool.{cases_eq, cases_lt}
use Rattle.tree.specs.Tree.{most_panels, parent, lawful_tree, distance, first_step, neighbours, lane_count, lane_source, lane_target, lane_between}
use Rattle.tree.specs.declared.cables.Tree.{Tree}
use Rattle.tree.specs.Answers.{parents}
use Rattle.tree.proofs.Climbs.{distance_same, distance_left, distance_right, first_step_same, first_step_up, first_step_child, first_step_down}
use Rattle.tree.proofs.Nearer.{symmetric, zero_apart, within_larger, edge, step}
use Rattle.tree.proofs.Lawful.{lawful_read}
use Rattle.tree.proofs.Neighbours.{Cable, neighbours_read, neighbours_made}
use Rattle.tree.proofs.Lanes.{ends_neighbours, between_is, ends_between}

-- a tree's list of parents is lawful
pub parents_lawful : (t : Tree) → lawful_tree (parents t) ≡ true
parents_lawful t = t.lawful

-- neighbours are so both ways round, for any list
pub neighbours_symmetric : (ps : List ℕ) (u v : ℕ) → neighbours ps u v ≡ true → neighbours ps v u ≡ true
neighbours_symmetric ps u v t =
    elim (neighbours_read ps u v t) [ inl c ↦ neighbours_made ps v u (inr c) | inr c ↦ neighbours_made ps v u (inl c) ]

module _ (ps : List ℕ) (lawful : lawful_tree ps ≡ true) where
  -- how many panels there are
  pub some_panel : 0 < length ps
  some_panel = (lawful_read ps lawful).some_panel

  pub few_panels : length ps ≤ most_panels
  few_panels = (lawful_read ps lawful).few_panels

  -- parents
  pub root_parent : parent ps 0 ≡ 0
  root_parent = (lawful_read ps lawful).root

  pub parent_below : (v : ℕ) → 0 < v → parent ps v < v
  parent_below = (lawful_read ps lawful).falls

  pub parent_exists : (v : ℕ) → parent ps v < length ps
  parent_exists v =
      elim (cases_lt v (length ps)) [
        | inl h ↦
            elim (cases_lt 0 v) [
              | inl p ↦ omega (arith, parent_below v p)
              | inr z ↦ let e : parent ps v ≡ parent ps 0 = ap (λ x. parent ps x) (omega arith) in omega (arith, root_parent, some_panel)
            ]
        | inr h ↦ omega (arith, get_or_past ps v 0 h, some_panel)
      ]

  -- neighbours
  pub neighbours_exist : (u v : ℕ) → neighbours ps u v ≡ true → (u < length ps) × (v < length ps)
  neighbours_exist u v t =
      elim (neighbours_read ps u v t)
      [ inl c ↦ omega (arith, parent_exists u) | inr c ↦ omega (arith, parent_exists v) ]

  pub neighbours_apart : (u v : ℕ) → neighbours ps u v ≡ true → u ≢ v
  neighbours_apart u v t =
      elim (neighbours_read ps u v t)
      [ inl c ↦ omega (arith, parent_below u) | inr c ↦ omega (arith, parent_below v) ]

  -- distances
  pub distance_symmetric : (a b : ℕ) → distance ps a b ≡ distance ps b a
  distance_symmetric = symmetric ps parent_below

  pub distance_self : (a : ℕ) → distance ps a a ≡ 0
  distance_self = distance_same ps parent_below

  pub distance_from_equal : (a b : ℕ) → a ≡ b → distance ps a b ≡ 0
  distance_from_equal a b e = ap (λ x. distance ps x b) e ∙ distance_self b

  pub equal_from_distance : (a b : ℕ) → distance ps a b ≡ 0 → a ≡ b
  equal_from_distance = zero_apart ps parent_below

  pub distance_below : (a b : ℕ) → a < length ps → b < length ps → distance ps a b < length ps
  distance_below a b ha hb = omega (arith, within_larger ps parent_below a b)

  pub distance_below_most : (a b : ℕ) → a < length ps → b < length ps → distance ps a b < most_panels
  distance_below_most a b ha hb = omega (arith, distance_below a b ha hb, few_panels)

  -- the larger of a and b climbs to its parent: that is one cable of the path, and the numbers fall
  abbrev Climbed : ℕ → ℕ → ℕ → ℕ → Type 0
  Climbed a b a' b' = (distance ps a b ≡ distance ps a' b' + 1) × (a' + b' < a + b)

  pub climb_left : (a b a' b' : ℕ) → b < a → a' ≡ parent ps a → b' ≡ b → Climbed a b a' b'
  climb_left a b a' b' l e f =
      let d : distance ps a' b' ≡ distance ps (parent ps a) b = cc in
      omega (arith, distance_left ps parent_below a b l, parent_below a)

  pub climb_right : (a b a' b' : ℕ) → a < b → a' ≡ a → b' ≡ parent ps b → Climbed a b a' b'
  climb_right a b a' b' l e f =
      let d : distance ps a' b' ≡ distance ps a (parent ps b) = cc in
      omega (arith, distance_right ps parent_below a b l, parent_below b)

  -- first steps
  pub first_step_self : (a : ℕ) → first_step ps a a ≡ a
  first_step_self = first_step_same ps parent_below

  pub first_step_from_equal : (u a : ℕ) → u ≡ a → first_step ps u a ≡ u
  first_step_from_equal u a e = subst (λ x. first_step ps u x ≡ u) e (first_step_self u)

  -- towards a smaller panel, a child, or any other larger panel with the parent p
  pub first_step_smaller : (u a : ℕ) → a < u → first_step ps u a ≡ parent ps u
  first_step_smaller = first_step_up ps parent_below

  pub first_step_own_child : (u a : ℕ) → u < a → parent ps a ≡ u → first_step ps u a ≡ a
  first_step_own_child = first_step_child ps parent_below

  pub first_step_larger : (u a p : ℕ) → u < a → p ≡ parent ps a → p ≢ u → first_step ps u a ≡ first_step ps u p
  first_step_larger u a p l e n =
      let f : first_step ps u p ≡ first_step ps u (parent ps a) = cc in
      first_step_down ps parent_below u a l (omega arith) ∙ sym f

  pub first_step_neighbour : (u a : ℕ) → u < length ps → a < length ps → u ≢ a → neighbours ps u (first_step ps u a) ≡ true
  first_step_neighbour u a hu ha n =
      let s = step ps parent_below u a n in
      neighbours_made ps u (first_step ps u a)
      (elim s.2 [ inl c ↦ inl (c.0, hu, c.1) | inr c ↦ inr (c.0, omega arith, c.1) ])

  pub first_step_exists : (u a : ℕ) → u < length ps → a < length ps → first_step ps u a < length ps
  first_step_exists u a hu ha =
      elim (cases_eq u a) [
        | inl e ↦ omega (arith, first_step_from_equal u a e)
        | inr n ↦ (neighbours_exist u (first_step ps u a) (first_step_neighbour u a hu ha n)).1
      ]

  pub first_step_nearer : (u a : ℕ) → u ≢ a → distance ps a (first_step ps u a) + 1 ≡ distance ps a u
  first_step_nearer u a n = omega (arith, (step ps parent_below u a n).1)

  cable_ends :
      (c p a : ℕ) → Cable ps c p
      → ((first_step ps p a ≡ c) × (distance ps a p ≡ suc (distance ps a c)))
      ⊎ ((first_step ps c a ≡ p) × (distance ps a c ≡ suc (distance ps a p)))
  cable_ends c p a h = rw h.2 at (edge ps parent_below c a h.0)

  other_neighbour :
      (u a x : ℕ) → neighbours ps u x ≡ true → x ≢ first_step ps u a
      → (first_step ps x a ≡ u) × (distance ps a x ≡ suc (distance ps a u))
  other_neighbour u a x t n =
      elim (neighbours_read ps u x t) [
        | inl c ↦ elim (cable_ends u x a c) [ inl h ↦ h | inr h ↦ absurd (n (sym h.0)) ]
        | inr c ↦ elim (cable_ends x u a c) [ inl h ↦ absurd (n (sym h.0)) | inr h ↦ h ]
      ]

  -- from a neighbour x of u other than the first step from u to a, the path to a goes through u (a may be u)
  pub first_step_back : (u a x : ℕ) → neighbours ps u x ≡ true → x ≢ first_step ps u a → first_step ps x a ≡ u
  first_step_back u a x t n = (other_neighbour u a x t n).0

  pub other_neighbour_farther : (u a x : ℕ) → neighbours ps u x ≡ true → x ≢ first_step ps u a → distance ps a x ≡ distance ps a u + 1
  other_neighbour_farther u a x t n = omega (arith, (other_neighbour u a x t n).1)

  -- from a neighbour x of a
  not_own_step : (a x : ℕ) → neighbours ps a x ≡ true → x ≢ first_step ps a a
  not_own_step a x t e = neighbours_apart a x t (sym (e ∙ first_step_self a))

  pub first_step_to_neighbour : (a x : ℕ) → neighbours ps a x ≡ true → first_step ps x a ≡ a
  first_step_to_neighbour a x t = first_step_back a a x t (not_own_step a x t)

  pub neighbour_distance : (a x : ℕ) → neighbours ps a x ≡ true → distance ps a x ≡ 1
  neighbour_distance a x t = omega (arith, other_neighbour_farther a a x t (not_own_step a x t), distance_self a)

  -- lanes
  pub lane_ends_neighbours : (k : ℕ) → k < lane_count ps → neighbours ps (lane_source ps k) (lane_target ps k) ≡ true
  lane_ends_neighbours = ends_neighbours ps

  pub lane_ends_exist : (k : ℕ) → k < lane_count ps → (lane_source ps k < length ps) × (lane_target ps k < length ps)
  lane_ends_exist k h = neighbours_exist (lane_source ps k) (lane_target ps k) (lane_ends_neighbours k h)

  pub lane_of_ends : (k : ℕ) → k < lane_count ps → lane_between ps (lane_source ps k) (lane_target ps k) ≡ k
  lane_of_ends = ends_between ps parent_below

  pub lane_between_below : (w u : ℕ) → neighbours ps w u ≡ true → lane_between ps w u < lane_count ps
  lane_between_below w u t = (between_is ps parent_below w u t).0

  pub lane_between_source : (w u : ℕ) → neighbours ps w u ≡ true → lane_source ps (lane_between ps w u) ≡ w
  lane_between_source w u t = (between_is ps parent_below w u t).1.0

  pub lane_between_target : (w u : ℕ) → neighbours ps w u ≡ true → lane_target ps (lane_between ps w u) ≡ u
  lane_between_target w u t = (between_is ps parent_below w u t).1.1

-- the steps of a climb: of both panels, and of the goal of a first step
pub ruleset climbing = (climb_left, climb_right)

pub ruleset stepping = (parent_below, first_step_from_equal, first_step_smaller, first_step_own_child, first_step_larger)
