-- How ways through a graph survive when a few of its steps are changed: f is the graph before, g after, and they agree
-- but at the vertices named. By induction on a way; whether a vertex is one of those named is decided. Assumes nothing.
use Rattle.std.proofs.Common.{◌≡◌, sym, ◌∙◌}
use mathlib.Core.Option.{Option, none, some}
use mathlib.Core.HLevel.{Discrete}
use Rattle.directory.specs.Paths.{Leads, here, on}
use Rattle.directory.proofs.Ways.{no_next, from, follow, stays, no_cycle}

module _ {V : Type 0} (same : Discrete V) {f g : V → Option V} where
  -- v → x becomes v → r → x, where r had no successor: every way survives
  pub inserted : {v r x : V} → f v ≡ some x → f r ≡ none → g v ≡ some r → g r ≡ some x
      → ((z : V) → ¬ (z ≡ v) → ¬ (z ≡ r) → g z ≡ f z)
      → {p q : V} → Leads f p q → Leads g p q
  inserted fv fr gv gr else (here e) = here e
  inserted {v} {r} fv fr gv gr else {p} (on s l) =
      let k = inserted fv fr gv gr else l in
      elim (same p v) [
        | yes e ↦ on (rw e gv) (on gr (from (cc) k))
        | no n ↦ elim (same p r) [ yes e ↦ absurd (no_next f e s fr) | no n' ↦ on (else p n n' ∙ s) k ]
      ]

  -- r → v, where v has no successor, and both may change: every way but those to v survives
  pub handed_on : {v r : V} → f v ≡ none → f r ≡ some v → ((z : V) → ¬ (z ≡ v) → ¬ (z ≡ r) → g z ≡ f z)
      → {p q : V} → ¬ (q ≡ v) → Leads f p q → Leads g p q
  handed_on fv fr else n (here e) = here e
  handed_on {v} {r} fv fr else {p} n (on s l) =
      let k = handed_on fv fr else n l in
      elim (same p v) [
        | yes e ↦ absurd (no_next f e s fv)
        | no n' ↦ elim (same p r) [ yes e ↦ absurd (n (sym (stays fv (from (cc) l)))) | no n'' ↦ on (else p n' n'' ∙ s) k ]
      ]

  -- u does not lead to r, and both may change: every way to r survives
  pub beside : {u r : V} → ¬ (Leads f u r) → ((z : V) → ¬ (z ≡ u) → ¬ (z ≡ r) → g z ≡ f z)
      → {p : V} → Leads f p r → Leads g p r
  beside n else (here e) = here e
  beside {u} {r} n else {p} (on s l) =
      let k = beside n else l in
      elim (same p r) [
        | yes e ↦ here e
        | no n' ↦ elim (same p u) [ yes e ↦ absurd (n (from (sym e) (on s l))) | no n'' ↦ on (else p n'' n' ∙ s) k ]
      ]

  -- r → u → y becomes r → y and u → w, where w leads to r: a way from u, but to another end, becomes one from r, and any other
  -- stays
  turned_from : {u r w y : V} → f r ≡ some u → f u ≡ some y → g r ≡ some y → g u ≡ some w → Leads g w r → ¬ (y ≡ u)
      → ((z : V) → ¬ (z ≡ u) → ¬ (z ≡ r) → g z ≡ f z)
      → {p q : V} → ¬ (q ≡ u) → Leads f p q → (¬ (p ≡ u) → Leads g p q) × (p ≡ u → Leads g r q)
  turned_from fr fu gr gu back y≢u else n (here e) = (λ _. here e, λ e'. absurd (n (sym e ∙ e')))
  turned_from {u} {r} fr fu gr gu back y≢u else {p} {q} n (on {m = m} s l) =
      let k = turned_from fr fu gr gu back y≢u else n l in (
        λ p≢u. elim (same p r) [
          | yes e ↦ from e (k.1 (cc))
          | no p≢r ↦ elim (same m u) [
            | yes e ↦ on (else p p≢u p≢r ∙ s) (from e (on gu (follow back (k.1 e))))
            | no m≢u ↦ on (else p p≢u p≢r ∙ s) (k.0 m≢u)
          ]
        ],
        λ e. let m≡y : m ≡ _ = cc in on gr (from (sym m≡y) (k.0 (λ e'. y≢u (sym m≡y ∙ e')))),
      )

  -- the same, where u leads to a vertex without a successor, and so is on no cycle: every way but those to u survives
  pub turned : {u r w y h : V} → f h ≡ none → Leads f u h → f r ≡ some u → f u ≡ some y → g r ≡ some y → g u ≡ some w
      → Leads f w r → ((z : V) → ¬ (z ≡ u) → ¬ (z ≡ r) → g z ≡ f z)
      → {p q : V} → ¬ (q ≡ u) → Leads f p q → Leads g p q
  turned {u} end home fr fu gr gu way else {p} n l =
      let back = beside (λ k. no_cycle end (on fr home) fr k) else way in
      let k = turned_from fr fu gr gu back (λ e. no_cycle end home fu (here e)) else n l in
      elim (same p u) [ yes e ↦ from e (on gu (follow back (k.1 e))) | no p≢u ↦ k.0 p≢u ]
