-- What one step along a cable does to a distance, from the equations of `distance` and `first_step`.
-- Assumes of the list of parents only that a parent is below its child, the fact `Falls`.
use Rattle.std.proofs.Common.{◌≡◌, ℕ, zero, suc, ◌+◌, ◌<◌, ◌≤◌, max, ◌≢◌, ◌⊎◌, List, sym, refl, ap, ◌∙◌, subst, inl, inr, arith}
use Rattle.std.proofs.lemmas.Bool.{cases_order, cases_eq}
use Rattle.tree.specs.Tree.{parent, distance, first_step}
use Rattle.tree.proofs.Climbs.{Falls, distance_same, distance_left, distance_right, first_step_same, first_step_up, first_step_child, first_step_down}

-- along the cable from child c to its parent, a lies below c or elsewhere: the end that is farther from a has the other for its first step,
-- and is farther by one
abbrev pub Edge : List ℕ → ℕ → ℕ → Type 0
Edge ps c a =
    ((first_step ps (parent ps c) a ≡ c) × (distance ps a (parent ps c) ≡ suc (distance ps a c)))
    ⊎ ((first_step ps c a ≡ parent ps c) × (distance ps a c ≡ suc (distance ps a (parent ps c))))

-- the first step w from u to a: no number above both, nearer by one, and u's parent or a child of u
abbrev pub Step : List ℕ → ℕ → ℕ → ℕ → Type 0
Step ps u a w =
    (w ≤ max u a) × (distance ps a u ≡ suc (distance ps a w))
    × (((0 < u) × (parent ps u ≡ w)) ⊎ ((0 < w) × (parent ps w ≡ u)))

module _ (ps : List ℕ) (falls : Falls ps) where
  symmetric_to : (k a b : ℕ) → a + b ≤ k → distance ps a b ≡ distance ps b a
  symmetric_to zero a b h = let e : a ≡ b = omega arith in cc
  symmetric_to (suc k) a b h =
      elim (cases_order a b) [
        | inl e ↦ cc
        | inr (inl l) ↦
            distance_right ps falls a b l
            ∙ ap suc (symmetric_to k a (parent ps b) (omega (arith, falls b)))
            ∙ sym (distance_left ps falls b a l)
        | inr (inr l) ↦
            distance_left ps falls a b l
            ∙ ap suc (symmetric_to k (parent ps a) b (omega (arith, falls a)))
            ∙ sym (distance_right ps falls b a l)
      ]

  pub symmetric : (a b : ℕ) → distance ps a b ≡ distance ps b a
  symmetric a b = symmetric_to (a + b) a b (omega arith)

  -- only equal panels are 0 apart
  pub zero_apart : (a b : ℕ) → distance ps a b ≡ 0 → a ≡ b
  zero_apart a b z =
      elim (cases_order a b) [
        | inl e ↦ e
        | inr (inl l) ↦ omega (arith, distance_right ps falls a b l)
        | inr (inr l) ↦ omega (arith, distance_left ps falls a b l)
      ]

  within_to : (k a b : ℕ) → a + b ≤ k → distance ps a b ≤ max a b
  within_to zero a b h =
      let e : a ≡ b = omega arith in
      let z : distance ps a b ≡ distance ps a a = cc in omega (arith, distance_same ps falls a)
  within_to (suc k) a b h =
      elim (cases_order a b) [
        | inl e ↦ let z : distance ps a b ≡ distance ps a a = cc in omega (arith, distance_same ps falls a)
        | inr (inl l) ↦
            let i : distance ps a (parent ps b) ≤ max a (parent ps b) = within_to k a (parent ps b) (omega (arith, falls b)) in
            omega (arith, falls b, distance_right ps falls a b l)
        | inr (inr l) ↦
            let i : distance ps (parent ps a) b ≤ max (parent ps a) b = within_to k (parent ps a) b (omega (arith, falls a)) in
            omega (arith, falls a, distance_left ps falls a b l)
      ]

  -- a distance is at most the larger number of the two
  pub within_larger : (a b : ℕ) → distance ps a b ≤ max a b
  within_larger a b = within_to (a + b) a b (omega arith)

  edge_self : (c : ℕ) → 0 < c → Edge ps c c
  edge_self c p =
      let below : parent ps c < c = falls c p in
      inl (
        first_step_child ps falls (parent ps c) c below refl,
        distance_left ps falls c (parent ps c) below
            ∙ ap suc (distance_same ps falls (parent ps c) ∙ sym (distance_same ps falls c)),
      )

  edge_below : (c a : ℕ) → 0 < c → c < a → Edge ps c (parent ps a) → Edge ps c a
  edge_below c a p l (inl (s, d)) =
      let below : parent ps c < c = falls c p in
      let under : parent ps c < a = omega arith in
      let apart : parent ps a ≢ parent ps c = λ e. let z : parent ps c ≡ c = cc (first_step_same ps falls (parent ps c)) in omega arith in
      inl (
        first_step_down ps falls (parent ps c) a under apart ∙ s,
        omega (arith, d, distance_left ps falls a (parent ps c) under, distance_left ps falls a c l),
      )
  edge_below c a p l (inr (s, d)) =
      let below : parent ps c < c = falls c p in
      let under : parent ps c < a = omega arith in
      let apart : parent ps a ≢ c = λ e. let z : parent ps c ≡ c = cc (first_step_same ps falls c) in omega arith in
      inr (
        first_step_down ps falls c a l apart ∙ s,
        omega (arith, d, distance_left ps falls a (parent ps c) under, distance_left ps falls a c l),
      )

  edge_cases : (c a : ℕ) → 0 < c → (c < a → Edge ps c (parent ps a)) → Edge ps c a
  edge_cases c a p rest =
      elim (cases_order a c) [
        | inl e ↦ subst (λ x. Edge ps c x) (sym e) (edge_self c p)
        | inr (inl l) ↦ inr (first_step_up ps falls c a l, distance_right ps falls a c l)
        | inr (inr l) ↦ edge_below c a p l (rest l)
      ]

  edge_to : (k c a : ℕ) → a ≤ k → 0 < c → Edge ps c a
  edge_to zero c a h p = edge_cases c a p (λ l. absurd (omega arith))
  edge_to (suc k) c a h p = edge_cases c a p (λ l. edge_to k c (parent ps a) (omega (arith, falls a)) p)

  -- of the two ends of a cable one is farther from a, by one, and its first step is the other
  pub edge : (c a : ℕ) → 0 < c → Edge ps c a
  edge c a p = edge_to a c a (omega arith) p

  step_child : (u a : ℕ) → u < a → parent ps a ≡ u → Step ps u a a
  step_child u a l e = (
    omega arith,
    distance_left ps falls a u l
        ∙ ap suc (ap (λ x. distance ps x u) e ∙ distance_same ps falls u ∙ sym (distance_same ps falls a)),
    inr (omega arith, e),
  )

  step_down : (u a w : ℕ) → u < a → Step ps u (parent ps a) w → Step ps u a w
  step_down u a w l s =
      let below : parent ps a < a = falls a (omega arith) in
      let under : w < a = omega arith in
      (omega arith, omega (arith, distance_left ps falls a u l, distance_left ps falls a w under), s.2)

  step_cases : (u a : ℕ) → u ≢ a → (u < a → parent ps a ≢ u → Step ps u (parent ps a) (first_step ps u (parent ps a))) → Step ps u a (first_step ps u a)
  step_cases u a n rest =
      elim (cases_order u a) [
        | inl e ↦ absurd (n e)
        | inr (inl l) ↦
            elim (cases_eq (parent ps a) u) [
              | inl e ↦ subst (λ w. Step ps u a w) (sym (first_step_child ps falls u a l e)) (step_child u a l e)
              | inr m ↦ subst (λ w. Step ps u a w) (sym (first_step_down ps falls u a l m)) (step_down u a (first_step ps u (parent ps a)) l (rest l m))
            ]
        | inr (inr l) ↦
            subst (λ w. Step ps u a w) (sym (first_step_up ps falls u a l))
            (omega (arith, falls u), distance_right ps falls a u l, inl (omega arith, refl))
      ]

  step_to : (k u a : ℕ) → a ≤ k → u ≢ a → Step ps u a (first_step ps u a)
  step_to zero u a h n = step_cases u a n (λ l m. absurd (omega arith))
  step_to (suc k) u a h n = step_cases u a n (λ l m. step_to k u (parent ps a) (omega (arith, falls a)) (λ e. m (sym e)))

  -- the first step from u to another panel a is one end of a cable at u, and nearer to a by one
  pub step : (u a : ℕ) → u ≢ a → Step ps u a (first_step ps u a)
  step u a n = step_to a u a (omega arith) n
