-- Ways through a graph in which every vertex has one successor or none: they join, they fork only by one being longer,
-- and none of them that can come to an end is a cycle. By induction on a way. Assumes nothing.
use Rattle.std.proofs.Common.{◌≡◌, ℕ, ◌⊎◌, sym, refl, subst, inl, inr, arith}
use mathlib.Core.Option.{Option, none, some}
use Rattle.directory.specs.Paths.{Leads, here, on}

-- no vertex has both a successor and none
pub no_next : {V : Type 0} (f : V → Option V) {p q m : V} → p ≡ q → f p ≡ some m → f q ≡ none → ⊥
no_next f e s z = let apart : ◌≡◌ {A = ℕ} 0 1 = cc in omega arith

module _ {V : Type 0} {f : V → Option V} where
  -- a way from q is one from what equals q
  pub from : {p q r : V} → p ≡ q → Leads f q r → Leads f p r
  from {r = r} e k = subst (λ (x : V). Leads f x r) (sym e) k

  -- a way goes on from the successor, unless it ends where it begins
  pub onward : {p m q : V} → f p ≡ some m → ¬ (p ≡ q) → Leads f p q → Leads f m q
  onward s n (here e) = absurd (n e)
  onward s n (on s' l) = from (cc) l

  -- ways that join
  pub follow : {p q r : V} → Leads f p q → Leads f q r → Leads f p r
  follow (here e) k = from e k
  follow (on s l) k = on s (follow l k)

  -- a way from a vertex without a successor goes nowhere else
  pub stays : {p q : V} → f p ≡ none → Leads f p q → p ≡ q
  stays z (here e) = e
  stays z (on s l) = absurd (no_next f refl s z)

  -- of two ways from one vertex, one goes on to the end of the other
  pub fork : {p q r : V} → Leads f p q → Leads f p r → Leads f q r ⊎ Leads f r q
  fork (here e) k = inl (from (sym e) k)
  fork (on s l) (here e) = inr (from (sym e) (on s l))
  fork (on s l) (on s' k) = fork l (from (cc) k)

  -- a way has a last step, unless it ends where it begins
  pub last : {p q : V} → Leads f p q → (p ≡ q) ⊎ ((m : V) × Leads f p m × (f m ≡ some q))
  last (here e) = inl e
  last {p} (on s l) = elim (last l) [ inl e ↦ inr (p, here refl, cc) | inr t ↦ inr (t.0, on s t.1, t.2) ]

  -- a vertex that leads to one without a successor is on no cycle
  pub no_cycle : {h c y : V} → f h ≡ none → Leads f c h → f c ≡ some y → Leads f y c → ⊥
  no_cycle z (here e) s k = no_next f e s z
  no_cycle z (on s' l) s (here e) = no_cycle z l (cc) (here refl)
  no_cycle z (on s' l) s (on t k) = no_cycle z l (cc) (follow k (on s' (here refl)))

  -- two vertices with one successor are one, if one of them leads to the other
  pub no_rejoin : {h p q y : V} → f h ≡ none → Leads f q h → f p ≡ some y → f q ≡ some y → Leads f p q → p ≡ q
  no_rejoin z home s t (here e) = e
  no_rejoin z home s t (on s' l) = absurd (no_cycle z home t (from (cc) l))
