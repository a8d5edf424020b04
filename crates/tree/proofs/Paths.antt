-- A walk that repeats no panel follows the first steps, so it has as many cables as the distance; and to follow them is such a walk.
-- Assumes nothing.
use Rattle.std.proofs.Common.{◌≡◌, ℕ, zero, suc, ◌<◌, ◌≤◌, true, ◌≢◌, List, [], ◌∷◌, length, get_or, sym, refl, ap, ◌∙◌, subst, inl, inr, arith}
use Rattle.std.proofs.lemmas.Bool.{cases_eq}
use Rattle.tree.specs.Tree.{lawful_tree, distance, first_step}
use Rattle.tree.specs.Laws.{Walk, stay, go, RepeatsNone, cables}
use Rattle.tree.proofs.Facts.{distance_symmetric, distance_self, equal_from_distance, neighbours_apart, first_step_self, first_step_neighbour, first_step_exists, first_step_nearer, first_step_back}

-- panel v stands nowhere in the list
abbrev Absent : ℕ → List ℕ → Type 0
Absent v panels = (k : ℕ) → k < length panels → get_or panels k 0 ≢ v

rest_repeats_none : (v : ℕ) (rest : List ℕ) → RepeatsNone (v ∷ rest) → RepeatsNone rest
rest_repeats_none v rest r i j l h = r (suc i) (suc j) (omega arith) (omega arith)

head_absent : (v : ℕ) (rest : List ℕ) → RepeatsNone (v ∷ rest) → Absent v rest
head_absent v rest r k h e = r 0 (suc k) (omega arith) (omega arith) (sym e)

repeats_none_made : (v : ℕ) (rest : List ℕ) → Absent v rest → RepeatsNone rest → RepeatsNone (v ∷ rest)
repeats_none_made v rest n r zero zero l h e = omega arith
repeats_none_made v rest n r zero (suc j) l h e = n j (omega arith) (sym e)
repeats_none_made v rest n r (suc i) zero l h e = omega arith
repeats_none_made v rest n r (suc i) (suc j) l h e = r i j (omega arith) (omega arith) e

walk_head : (ps : List ℕ) (a b : ℕ) (panels : List ℕ) → Walk ps a b panels → (0 < length panels) × (get_or panels 0 0 ≡ a)
walk_head ps a b panels (stay h) = (omega arith, refl)
walk_head ps a b panels (go t p) = (omega arith, refl)

module _ (ps : List ℕ) (lawful : lawful_tree ps ≡ true) where
  -- a path that avoids u, and starts at x from where the way to b goes through u, never comes to b
  away : (u x b : ℕ) (panels : List ℕ) → Walk ps x b panels → RepeatsNone panels → Absent u panels → first_step ps x b ≡ u → ⊥
  away u x b panels (stay h) r n s = n 0 (omega arith) (sym (first_step_self ps lawful x) ∙ s)
  away u x b panels (go {w = w} {rest = rest} t p) r n s =
      let start = walk_head ps w b rest p in
      let apart : w ≢ first_step ps x b = λ e. n 1 (omega arith) (start.1 ∙ e ∙ s) in
      away x w b rest p (rest_repeats_none x rest r) (head_absent x rest r) (first_step_back ps lawful x b w t apart)

  exact : (a b : ℕ) (panels : List ℕ) → Walk ps a b panels → RepeatsNone panels → length panels ≡ suc (distance ps b a)
  exact a b panels (stay h) r = ap suc (sym (distance_self ps lawful a))
  exact a b panels (go {w = w} {rest = rest} t p) r =
      let i : length rest ≡ suc (distance ps b w) = exact w b rest p (rest_repeats_none a rest r) in
      elim (cases_eq w (first_step ps a b)) [
        | inl e ↦
            let apart : a ≢ b = λ f. neighbours_apart ps lawful a w t (sym (e ∙ ap (λ x. first_step ps a x) (sym f) ∙ first_step_self ps lawful a)) in
            let d : distance ps b w ≡ distance ps b (first_step ps a b) = ap (λ x. distance ps b x) e in
            omega (arith, first_step_nearer ps lawful a b apart)
        | inr n ↦ absurd (away a w b rest p (rest_repeats_none a rest r) (head_absent a rest r) (first_step_back ps lawful a b w t n))
      ]

  -- a path that repeats no panel has as many cables as the distance
  pub path_cables : (a b : ℕ) (panels : List ℕ) → Walk ps a b panels → RepeatsNone panels → cables panels ≡ distance ps a b
  path_cables a b panels p r = omega (arith, exact a b panels p r, distance_symmetric ps lawful a b)

  -- every panel of the list is at most d from b
  abbrev Within : ℕ → ℕ → List ℕ → Type 0
  Within d b panels = (k : ℕ) → k < length panels → distance ps b (get_or panels k 0) ≤ d

  within_made : (d b v : ℕ) (rest : List ℕ) → distance ps b v ≤ d → Within d b rest → Within d b (v ∷ rest)
  within_made d b v rest h f zero l = h
  within_made d b v rest h f (suc k) l = f k (omega arith)

  -- follow the first steps from a: the distance from b falls with each, so no panel comes again
  descent :
      (d a b : ℕ) → a < length ps → b < length ps → distance ps b a ≡ d
      → (panels : List ℕ) × Walk ps a b panels × RepeatsNone panels × Within d b panels
  descent zero a b ha hb e =
      let same : a ≡ b = sym (equal_from_distance ps lawful b a e) in (
        a ∷ [],
        subst (λ x. Walk ps a x (a ∷ [])) same (stay ha),
        (λ i j l h f. omega arith),
        within_made 0 b a [] (omega arith) (λ k l. absurd (omega arith)),
      )
  descent (suc d) a b ha hb e =
      let apart : a ≢ b = λ f. let z : distance ps b a ≡ distance ps b b = ap (λ x. distance ps b x) f in omega (arith, distance_self ps lawful b) in
      let w = first_step ps a b in
      let nearer : distance ps b w ≡ d = omega (arith, first_step_nearer ps lawful a b apart) in
      let rest = descent d w b (first_step_exists ps lawful a b ha hb) hb nearer in
      let absent : Absent a rest.0 = λ k h f. let z : distance ps b (get_or rest.0 k 0) ≡ distance ps b a = ap (λ x. distance ps b x) f in omega (arith, rest.3 k h) in (
        a ∷ rest.0,
        go (first_step_neighbour ps lawful a b ha hb apart) rest.1,
        repeats_none_made a rest.0 absent rest.2,
        within_made (suc d) b a rest.0 (omega arith) (λ k h. omega (arith, rest.3 k h)),
      )

  -- there is a path that repeats no panel
  pub path_exists : (a b : ℕ) → a < length ps → b < length ps → (panels : List ℕ) × Walk ps a b panels × RepeatsNone panels
  path_exists a b ha hb = let p = descent (distance ps b a) a b ha hb refl in (p.0, p.1, p.2)
