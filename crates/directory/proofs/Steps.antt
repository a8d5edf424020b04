-- The successor of each vertex of the queue, and that it stays where neither arrow nor place changes. Assumes nothing.
use Rattle.std.proofs.Common.{◌≡◌, ℕ, eqb, ◌⊎◌, refl, ap, inl, inr, arith}
use mathlib.Core.HLevel.{Discrete}
use mathlib.Core.Option.{some}
use native.Mathlib.Decide.{ℕ_discrete}
use Rattle.std.proofs.lemmas.Bool.{eq-eqb, ne_eqb, cond-true, cond-false}
use Rattle.directory.specs.Directory.{Directory, Place, idle, flying, after, front}
use Rattle.directory.specs.Queue.{Vertex, find_at, request_of, from_arrow, from_place, next}

-- vertices can be told apart
pub same_vertex : Discrete Vertex
same_vertex (find_at u) (find_at v) = elim (ℕ_discrete u v) [ yes e ↦ yes (ap find_at e) | no n ↦ no (λ e. n (cc)) ]
same_vertex (find_at u) (request_of b) = no (λ e. search arith)
same_vertex (request_of a) (find_at v) = no (λ e. search arith)
same_vertex (request_of a) (request_of b) = elim (ℕ_discrete a b) [ yes e ↦ yes (ap request_of e) | no n ↦ no (λ e. n (cc)) ]

module _ (d : Directory) where
  -- an arrow that is the panel itself leads to the panel's request
  pub to_request : (v : ℕ) → d.arrow v ≡ v → next d (find_at v) ≡ some (request_of v)
  to_request v e = ap some (cond-true (eqb (d.arrow v) v) (request_of v) (find_at (d.arrow v)) (eq-eqb (d.arrow v) v e))

  -- any other arrow leads on
  pub to_find : (v : ℕ) → ¬ (d.arrow v ≡ v) → next d (find_at v) ≡ some (find_at (d.arrow v))
  to_find v n = ap some (cond-false (eqb (d.arrow v) v) (request_of v) (find_at (d.arrow v)) (ne_eqb (d.arrow v) v n))

-- a vertex keeps its successor where the arrow, or the place, stays
pub agree : (d d' : Directory) (z : Vertex) → ((v : ℕ) → z ≡ find_at v → d'.arrow v ≡ d.arrow v)
    → ((a : ℕ) → z ≡ request_of a → d'.place a ≡ d.place a) → next d' z ≡ next d z
agree d d' (find_at v) arrows places = ap (λ x. some (from_arrow v x)) (arrows v refl)
agree d d' (request_of a) arrows places = ap from_place (places a refl)

-- what the request of a waits for: the panel that its find comes to, or the request that it is after
abbrev pub WaitsFor : Directory → ℕ → Vertex → Type 0
WaitsFor d a m = ((w : ℕ) × (u : ℕ) × (d.place a ≡ flying w u) × (m ≡ find_at u)) ⊎ ((p : ℕ) × (d.place a ≡ after p) × (m ≡ request_of p))

pub from_request : (d : Directory) (a : ℕ) (m : Vertex) → next d (request_of a) ≡ some m → WaitsFor d a m
from_request d a m = go (d.place a) refl
  where
    go : (q : Place) → d.place a ≡ q → from_place q ≡ some m → WaitsFor d a m
    go idle e s = search arith
    go (flying w u) e s = inl (w, u, e, cc)
    go (after p) e s = inr (p, e, cc)
    go front e s = search arith

-- what comes straight before the request of v: a find at v whose arrow is v itself, or the request of a follower
pub into_request : (d : Directory) (m : Vertex) (v : ℕ) → next d m ≡ some (request_of v)
    → ((m ≡ find_at v) × (d.arrow v ≡ v)) ⊎ ((b : ℕ) × (m ≡ request_of b) × (d.place b ≡ after v))
into_request d (find_at x) v s = elim (ℕ_discrete (d.arrow x) x) [
  | yes e ↦ (let t : next d (find_at x) ≡ some (request_of x) = to_request d x e in
      let x≡v : x ≡ v = cc in inl (ap find_at x≡v, cc))
  | no n ↦ (let t : next d (find_at x) ≡ some (find_at (d.arrow x)) = to_find d x n in search arith)
]
into_request d (request_of b) v s = elim (from_request d b (request_of v) s) [
  | inl t ↦ (let e = t.3 in search arith)
  | inr t ↦ inr (b, refl, (let e = t.1 in let e' = t.2 in cc))
]
