-- What `lawful_tree` says, as facts on places, both ways. Assumes nothing.
use Rattle.std.proofs.Common.{◌≡◌, ℕ, zero, suc, ◌+◌, ◌<◌, ◌≤◌, true, false, ◌&&◌, eqb, ltb, leb, List, [], ◌∷◌, length, get_or, drop, add-one, zero-add, sym, refl, inl, inr, arith}
use Rattle.std.specs.List.{list_all, enumerate_from}
use Rattle.std.proofs.lemmas.List.{get_or_past}
use Rattle.std.proofs.lemmas.Bool.{and_parts, and_from, cases_Bool, cases_lt, ltb-true, lt-ltb, leb-true, le-leb, eqb-true, eq-eqb, true≢false}
use Rattle.tree.specs.Tree.{most_panels, parent, below_place, lawful_tree}

below_read : (i : ℕ) (xs : List ℕ) → below_place i xs ≡ true → (k : ℕ) → k < length xs → get_or xs k 0 < i + k
unfolding below_place
below_read i [] t k h = omega arith
below_read i (x ∷ xs) t zero h = omega (arith, ltb-true x i (and_parts (ltb x i) (below_place (suc i) xs) t).0)
below_read i (x ∷ xs) t (suc k) h =
    omega (arith, below_read (suc i) xs (and_parts (ltb x i) (below_place (suc i) xs) t).1 k (omega arith))

below_made : (i : ℕ) (xs : List ℕ) → ((k : ℕ) → k < length xs → get_or xs k 0 < i + k) → below_place i xs ≡ true
unfolding below_place
below_made i [] f = refl
below_made i (x ∷ xs) f =
    and_from (ltb x i) (below_place (suc i) xs) (lt-ltb x i (omega (arith, f 0)))
    (below_made (suc i) xs (λ k h. omega (arith, f (suc k))))

-- what the test says of a list
pub record FactsOf (ps : List ℕ) : Type 0 where
  pub some_panel : 0 < length ps
  pub few_panels : length ps ≤ most_panels
  pub root : parent ps 0 ≡ 0
  pub falls : (v : ℕ) → 0 < v → parent ps v < v

falls_from : (root : ℕ) (rest : List ℕ) → below_place 1 rest ≡ true → (v : ℕ) → 0 < v → parent (root ∷ rest) v < v
falls_from root rest t zero p = omega arith
falls_from root rest t (suc k) p =
    elim (cases_lt k (length rest)) [
      | inl h ↦ omega (arith, below_read 1 rest t k h)
      | inr h ↦ omega (arith, get_or_past rest k 0 h)
    ]

pub lawful_read : (ps : List ℕ) → lawful_tree ps ≡ true → FactsOf ps
unfolding lawful_tree
lawful_read [] t = absurd (true≢false (sym t))
lawful_read (root ∷ rest) t =
    let parts = and_parts (eqb root 0) (below_place 1 rest && leb (suc (length rest)) most_panels) t in
    let more = and_parts (below_place 1 rest) (leb (suc (length rest)) most_panels) parts.1 in
    record {
      some_panel = omega arith;
      few_panels = leb-true (suc (length rest)) most_panels more.1;
      root = eqb-true root 0 parts.0;
      falls = falls_from root rest more.0;
    }

-- facts on the places that exist are enough
pub lawful_made :
    (ps : List ℕ) → 0 < length ps → length ps ≤ most_panels → parent ps 0 ≡ 0
    → ((v : ℕ) → 0 < v → v < length ps → parent ps v < v) → lawful_tree ps ≡ true
unfolding lawful_tree
lawful_made [] p h r f = absurd (omega arith)
lawful_made (root ∷ rest) p h r f =
    and_from (eqb root 0) (below_place 1 rest && leb (suc (length rest)) most_panels) (eq-eqb root 0 r)
    (and_from (below_place 1 rest) (leb (suc (length rest)) most_panels)
    (below_made 1 rest (λ k l. omega (arith, f (suc k))))
    (le-leb (suc (length rest)) most_panels h))

-- a list that breaks a rule is not lawful
pub unlawful_made : (ps : List ℕ) → (FactsOf ps → ⊥) → false ≡ lawful_tree ps
unlawful_made ps n =
    elim (cases_Bool (lawful_tree ps)) [ inl t ↦ absurd (n (lawful_read ps t)) | inr f ↦ sym f ]

below_test : (i : ℕ) (ps : List ℕ) → list_all (λ x. ltb x.1 x.0) (enumerate_from i ps) ≡ below_place i ps
unfolding below_place
below_test i [] = refl
below_test i (p ∷ ps) = rw (add-one, below_test (suc i) ps)

-- the tests of a list, one after the other
pub lawful_test :
    (ps : List ℕ)
    → lawful_tree ps
    ≡ (ltb 0 (length ps) && (eqb (parent ps 0) 0 && (list_all (λ x. ltb x.1 x.0) (drop 1 (enumerate_from 0 ps)) && leb (length ps) most_panels)))
unfolding lawful_tree
lawful_test [] = refl
lawful_test (root ∷ rest) = rw (zero-add, below_test 1 rest, lt-ltb 0 (suc (length rest)) (omega arith))
