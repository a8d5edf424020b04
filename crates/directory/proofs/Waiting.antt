-- Nobody is left waiting: where no find is under way, a request is after another one, and so on to the front panel, which is
-- followed unless it is the only one. By induction on the way home. Assumes nothing.
use Rattle.std.proofs.Common.{◌≡◌, ℕ, sym, refl, ap, ◌∙◌, inl, inr}
use Rattle.directory.specs.Directory.{Directory, flying, after}
use Rattle.directory.specs.Law.{NobodyLeftWaiting}
use Rattle.directory.specs.Paths.{Leads, here, on}
use Rattle.directory.specs.Queue.{Vertex, request_of, next, Sound}
use Rattle.directory.proofs.Facts.{front_is_home, request_leads_home}
use Rattle.directory.proofs.Steps.{from_request}

module _ (d : Directory) (h : ℕ) (no_find : (a w u : ℕ) → ¬ (d.place a ≡ flying w u)) (none_after : (a : ℕ) → ¬ (d.place a ≡ after h)) where
  is_front : {p q : Vertex} → Leads (next d) p q → (a : ℕ) → p ≡ request_of a → q ≡ request_of h → a ≡ h
  is_front (here e) a p_is q_is = cc
  is_front (on {p = p} {m = m} s l) a p_is q_is = elim (from_request d a m (ap (next d) (sym p_is) ∙ s)) [
    | inl t ↦ absurd (no_find a t.0 t.1 t.2)
    | inr t ↦ absurd (none_after a (t.1 ∙ ap after (is_front l t.0 t.2 q_is)))
  ]

pub nobody_left_waiting : {d : Directory} → Sound d → NobodyLeftWaiting d
nobody_left_waiting {d} s h in_front no_find none_after a asks =
    is_front d h no_find none_after (request_leads_home s a asks) a refl (ap request_of (sym (front_is_home s h in_front)))
