-- What `child` and `neighbours` say, as facts, both ways. Assumes nothing.
use Rattle.std.proofs.Common.{◌≡◌, ℕ, ◌<◌, true, ◌&&◌, eqb, ltb, ◌⊎◌, List, length, inl, inr}
use Rattle.std.proofs.lemmas.Bool.{and_parts, and_from, or_cases, or_left, or_right, ltb-true, lt-ltb, eqb-true, eq-eqb}
use Rattle.tree.specs.Tree.{parent, exists, child, neighbours}

-- a cable joins c to its parent p
abbrev pub Cable : List ℕ → ℕ → ℕ → Type 0
Cable ps c p = (0 < c) × (c < length ps) × (parent ps c ≡ p)

pub child_read : (ps : List ℕ) (c p : ℕ) → child ps c p ≡ true → Cable ps c p
unfolding child
child_read ps c p t =
    let parts = and_parts (ltb 0 c) (exists ps c && eqb (parent ps c) p) t in
    let more = and_parts (exists ps c) (eqb (parent ps c) p) parts.1 in
    (ltb-true 0 c parts.0, ltb-true c (length ps) more.0, eqb-true (parent ps c) p more.1)

pub child_made : (ps : List ℕ) (c p : ℕ) → Cable ps c p → child ps c p ≡ true
unfolding child
child_made ps c p h =
    and_from (ltb 0 c) (exists ps c && eqb (parent ps c) p) (lt-ltb 0 c h.0)
    (and_from (exists ps c) (eqb (parent ps c) p) (lt-ltb c (length ps) h.1) (eq-eqb (parent ps c) p h.2))

pub neighbours_read : (ps : List ℕ) (u v : ℕ) → neighbours ps u v ≡ true → Cable ps u v ⊎ Cable ps v u
unfolding neighbours
neighbours_read ps u v t =
    elim (or_cases (child ps u v) (child ps v u) t) [ inl l ↦ inl (child_read ps u v l) | inr r ↦ inr (child_read ps v u r) ]

pub neighbours_made : (ps : List ℕ) (u v : ℕ) → Cable ps u v ⊎ Cable ps v u → neighbours ps u v ≡ true
unfolding neighbours
neighbours_made ps u v (inl h) = or_left (child ps u v) (child ps v u) (child_made ps u v h)
neighbours_made ps u v (inr h) = or_right (child ps u v) (child ps v u) (child_made ps v u h)
