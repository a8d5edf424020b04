-- The equations of `distance` and `first_step`, proved once; nothing else unfolds the recursions.
-- Assumes of the list of parents only that a parent is below its child, the fact `Falls`.
use Rattle.std.proofs.Common.{◌≡◌, ℕ, zero, suc, ◌+◌, ◌<◌, ◌≤◌, ◌≢◌, List, sym, refl, ap, ◌∙◌, inl, inr, arith}
use Rattle.std.proofs.lemmas.Bool.{cases_order, cases_eq}
use Rattle.tree.specs.Tree.{parent, climbs, distance, steps_towards, first_step}

-- a parent is below its child
abbrev pub Falls : List ℕ → Type 0
Falls ps = (v : ℕ) → 0 < v → parent ps v < v

climbs_same : (k : ℕ) (ps : List ℕ) (a b : ℕ) → a ≡ b → climbs k ps a b ≡ 0
unfolding climbs
climbs_same zero ps a b e = refl
climbs_same (suc k) ps a b e = grind arith

climbs_right : (k : ℕ) (ps : List ℕ) (a b : ℕ) → a < b → climbs (suc k) ps a b ≡ suc (climbs k ps a (parent ps b))
unfolding climbs
climbs_right k ps a b h = grind arith

climbs_left : (k : ℕ) (ps : List ℕ) (a b : ℕ) → b < a → climbs (suc k) ps a b ≡ suc (climbs k ps (parent ps a) b)
unfolding climbs
climbs_left k ps a b h = grind arith

steps_same : (k : ℕ) (ps : List ℕ) (u a : ℕ) → u ≡ a → steps_towards k ps u a ≡ u
unfolding steps_towards
steps_same zero ps u a e = refl
steps_same (suc k) ps u a e = grind arith

steps_up : (k : ℕ) (ps : List ℕ) (u a : ℕ) → a < u → steps_towards (suc k) ps u a ≡ parent ps u
unfolding steps_towards
steps_up k ps u a h = grind arith

steps_child : (k : ℕ) (ps : List ℕ) (u a : ℕ) → u < a → parent ps a ≡ u → steps_towards (suc k) ps u a ≡ a
unfolding steps_towards
steps_child k ps u a h e = grind arith

steps_down : (k : ℕ) (ps : List ℕ) (u a : ℕ) → u < a → parent ps a ≢ u → steps_towards (suc k) ps u a ≡ steps_towards k ps u (parent ps a)
unfolding steps_towards
steps_down k ps u a h e = grind arith

module _ (ps : List ℕ) (falls : Falls ps) where
  -- any two limits that are large enough give one answer
  climbs_limit : (k m a b : ℕ) → a + b ≤ k → a + b ≤ m → climbs k ps a b ≡ climbs m ps a b
  climbs_limit zero m a b h i = climbs_same zero ps a b (omega arith) ∙ sym (climbs_same m ps a b (omega arith))
  climbs_limit (suc k) zero a b h i =
      climbs_same (suc k) ps a b (omega arith) ∙ sym (climbs_same zero ps a b (omega arith))
  climbs_limit (suc k) (suc m) a b h i =
      elim (cases_order a b) [
        | inl e ↦ climbs_same (suc k) ps a b e ∙ sym (climbs_same (suc m) ps a b e)
        | inr (inl l) ↦
            climbs_right k ps a b l
            ∙ ap suc (climbs_limit k m a (parent ps b) (omega (arith, falls b)) (omega (arith, falls b)))
            ∙ sym (climbs_right m ps a b l)
        | inr (inr l) ↦
            climbs_left k ps a b l
            ∙ ap suc (climbs_limit k m (parent ps a) b (omega (arith, falls a)) (omega (arith, falls a)))
            ∙ sym (climbs_left m ps a b l)
      ]

  steps_limit : (k m u a : ℕ) → u + a ≤ k → u + a ≤ m → steps_towards k ps u a ≡ steps_towards m ps u a
  steps_limit zero m u a h i = steps_same zero ps u a (omega arith) ∙ sym (steps_same m ps u a (omega arith))
  steps_limit (suc k) zero u a h i = steps_same (suc k) ps u a (omega arith) ∙ sym (steps_same zero ps u a (omega arith))
  steps_limit (suc k) (suc m) u a h i =
      elim (cases_order u a) [
        | inl e ↦ steps_same (suc k) ps u a e ∙ sym (steps_same (suc m) ps u a e)
        | inr (inl l) ↦
            elim (cases_eq (parent ps a) u) [
              | inl e ↦ steps_child k ps u a l e ∙ sym (steps_child m ps u a l e)
              | inr n ↦
                  steps_down k ps u a l n
                  ∙ steps_limit k m u (parent ps a) (omega (arith, falls a)) (omega (arith, falls a))
                  ∙ sym (steps_down m ps u a l n)
            ]
        | inr (inr l) ↦ steps_up k ps u a l ∙ sym (steps_up m ps u a l)
      ]

  pub distance_same : (a : ℕ) → distance ps a a ≡ 0
  unfolding distance
  distance_same a = climbs_same (a + a) ps a a refl

  -- the larger panel climbs
  pub distance_right : (a b : ℕ) → a < b → distance ps a b ≡ suc (distance ps a (parent ps b))
  unfolding distance
  distance_right a b l =
      climbs_limit (a + b) (suc (a + b)) a b (omega arith) (omega arith)
      ∙ climbs_right (a + b) ps a b l
      ∙ ap suc (climbs_limit (a + b) (a + parent ps b) a (parent ps b) (omega (arith, falls b)) (omega arith))

  pub distance_left : (a b : ℕ) → b < a → distance ps a b ≡ suc (distance ps (parent ps a) b)
  unfolding distance
  distance_left a b l =
      climbs_limit (a + b) (suc (a + b)) a b (omega arith) (omega arith)
      ∙ climbs_left (a + b) ps a b l
      ∙ ap suc (climbs_limit (a + b) (parent ps a + b) (parent ps a) b (omega (arith, falls a)) (omega arith))

  pub first_step_same : (a : ℕ) → first_step ps a a ≡ a
  unfolding first_step
  first_step_same a = steps_same (a + a) ps a a refl

  -- towards a smaller panel: up
  pub first_step_up : (u a : ℕ) → a < u → first_step ps u a ≡ parent ps u
  unfolding first_step
  first_step_up u a l =
      steps_limit (u + a) (suc (u + a)) u a (omega arith) (omega arith) ∙ steps_up (u + a) ps u a l

  -- towards a child: that child
  pub first_step_child : (u a : ℕ) → u < a → parent ps a ≡ u → first_step ps u a ≡ a
  unfolding first_step
  first_step_child u a l e =
      steps_limit (u + a) (suc (u + a)) u a (omega arith) (omega arith) ∙ steps_child (u + a) ps u a l e

  -- towards any other larger panel: as towards its parent
  pub first_step_down : (u a : ℕ) → u < a → parent ps a ≢ u → first_step ps u a ≡ first_step ps u (parent ps a)
  unfolding first_step
  first_step_down u a l n =
      steps_limit (u + a) (suc (u + a)) u a (omega arith) (omega arith)
      ∙ steps_down (u + a) ps u a l n
      ∙ steps_limit (u + a) (u + parent ps a) u (parent ps a) (omega (arith, falls a)) (omega arith)
