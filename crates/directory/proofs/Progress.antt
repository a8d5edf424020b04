-- As long as some panel waits, a move other than a request can be made: its way home has a find that can pass or land, or
-- ends at a follower of the front panel. By induction on the way home. Assumes nothing.
use Rattle.std.proofs.Common.{◌≡◌, ℕ, sym, refl, ap, ◌∙◌, inl, inr}
use native.Mathlib.Decide.{ℕ_discrete}
use Rattle.directory.specs.Directory.{Directory, idle, flying, after, front, pass, land, hand_on}
use Rattle.directory.specs.Law.{GoesOn}
use Rattle.directory.specs.Paths.{Leads, here, on}
use Rattle.directory.specs.Queue.{Vertex, request_of, next, Sound}
use Rattle.directory.proofs.Facts.{request_leads_home}
use Rattle.directory.proofs.Makes.{land_made, makes_land, pass_made, makes_pass, hand_on_made, makes_hand_on}
use Rattle.directory.proofs.Steps.{from_request}

-- a find can pass or land where it comes to
find_goes_on : (d : Directory) (a w u : ℕ) → d.place a ≡ flying w u → GoesOn d
find_goes_on d a w u e = elim (ℕ_discrete (d.arrow u) u) [
  | yes self ↦ (land a w u, land_made d a w u, tt, makes_land d a w u e self)
  | no other ↦ (pass a w u, pass_made d a w u, tt, makes_pass d a w u e other)
]

-- along the way home of a panel that waits
waits_goes_on : (d : Directory) (h : ℕ) → d.place h ≡ front → {p q : Vertex} → Leads (next d) p q
    → (a : ℕ) → p ≡ request_of a → q ≡ request_of h → ¬ (a ≡ h) → GoesOn d
waits_goes_on d h in_front (here e) a p_is q_is a≢h = absurd (a≢h (cc))
waits_goes_on d h in_front (on {m = m} s l) a p_is q_is a≢h = elim (from_request d a m (ap (next d) (sym p_is) ∙ s)) [
  | inl t ↦ find_goes_on d a t.0 t.1 t.2
  | inr t ↦ elim (ℕ_discrete t.0 h) [
    | yes e ↦ (let e' : d.place a ≡ after h = t.1 ∙ ap after e in (hand_on h a, hand_on_made d h a, tt, makes_hand_on d h a in_front e'))
    | no p≢h ↦ waits_goes_on d h in_front l t.0 t.2 q_is p≢h
  ]
]

-- a panel that waits: some move can be made
pub goes_on : {d : Directory} → Sound d → (a : ℕ) → ¬ (d.place a ≡ idle) → ¬ (d.place a ≡ front) → GoesOn d
goes_on {d} s a asks waits =
    waits_goes_on d s.home s.home_front (request_leads_home s a asks) a refl refl
    (λ e. waits (ap d.place e ∙ s.home_front))
