-- What follows from the laws of the queue: mostly because a cycle would close otherwise, and a way home has none.
-- Assumes nothing.
use Rattle.std.proofs.Common.{◌≡◌, ℕ, ◌⊎◌, sym, ap, ◌∙◌, inl, inr, arith}
use mathlib.Core.Option.{none, some}
use native.Mathlib.Decide.{ℕ_discrete}
use Rattle.directory.specs.Directory.{Directory, idle, flying, after, front}
use Rattle.directory.specs.Paths.{Leads, here, on}
use Rattle.directory.specs.Queue.{Vertex, find_at, request_of, from_place, next, Behind, Sound}
use Rattle.directory.proofs.Steps.{to_request, to_find, into_request}
use Rattle.directory.proofs.Ways.{from, onward, follow, fork, last, stays, no_cycle, no_rejoin}

module _ {d : Directory} (s : Sound d) where
  -- the request of the front panel is the end of every way
  pub home_ends : next d (request_of s.home) ≡ none
  home_ends = ap from_place s.home_front

  -- every request leads home
  pub request_leads_home : (a : ℕ) → ¬ (d.place a ≡ idle) → Leads (next d) (request_of a) (request_of s.home)
  request_leads_home a n = elim (fork (s.own a n) (s.leads_home a)) [ inl k ↦ k | inr k ↦ here (sym (stays home_ends k)) ]

  -- only one panel is in front
  pub front_is_home : (v : ℕ) → d.place v ≡ front → v ≡ s.home
  front_is_home v e =
      let k : request_of v ≡ request_of s.home = stays (ap from_place e) (request_leads_home v (λ i. search arith)) in cc

  -- an idle panel's request does not lead home
  idle_request : (v : ℕ) → d.place v ≡ idle → ¬ (Leads (next d) (request_of v) (request_of s.home))
  idle_request v e k =
      let same : request_of v ≡ request_of s.home = stays (ap from_place e) k in
      let h : v ≡ s.home = cc in
      let f = s.home_front in search arith

  -- the arrow of an idle panel is not the panel itself
  pub idle_arrow : (v : ℕ) → d.place v ≡ idle → ¬ (d.arrow v ≡ v)
  idle_arrow v e self = idle_request v e (onward (to_request d v self) (λ c. search arith) (s.leads_home v))

  -- a panel whose arrow is the panel itself has a request
  pub self_arrow_asks : (v : ℕ) → d.arrow v ≡ v → ¬ (d.place v ≡ idle)
  self_arrow_asks v self e = idle_arrow v e self

  -- no request waits for itself
  request_cycle : (a : ℕ) {y : Vertex} → next d (request_of a) ≡ some y → ¬ (d.place a ≡ idle) → ¬ (Leads (next d) y (request_of a))
  request_cycle a t n k = no_cycle home_ends (request_leads_home a n) t k

  -- a panel that is followed has a request
  pub followed_asks : (a p : ℕ) → d.place a ≡ after p → ¬ (d.place p ≡ idle)
  followed_asks a p e i =
      let f = s.home_front in
      idle_request p i
      (onward (ap from_place e) (λ c. let a≡h : a ≡ s.home = cc in search arith) (request_leads_home a (λ c. search arith)))

  -- no panel follows itself
  pub follows_another : (a p : ℕ) → d.place a ≡ after p → ¬ (a ≡ p)
  follows_another a p e c = request_cycle a (ap from_place e) (λ i. search arith) (here (ap request_of (sym c)))

  -- a panel whose arrow is the panel itself has no follower
  pub self_arrow_unfollowed : (v : ℕ) → d.arrow v ≡ v → (a : ℕ) → ¬ (d.place a ≡ after v)
  self_arrow_unfollowed v self a e =
      request_cycle a (ap from_place e) (λ i. search arith) (onward (to_request d v self) (λ c. search arith) (s.landed a v e))

  -- two requests that wait for the same, and that one vertex leads to, are one
  one_waits : (a b : ℕ) {x y : Vertex} → ¬ (d.place a ≡ idle) → ¬ (d.place b ≡ idle)
      → Leads (next d) x (request_of a) → Leads (next d) x (request_of b)
      → next d (request_of a) ≡ some y → next d (request_of b) ≡ some y → a ≡ b
  one_waits a b asks asks' k k' t t' = elim (fork k k') [
    | inl l ↦ (let e = no_rejoin home_ends (request_leads_home b asks') t t' l in cc)
    | inr l ↦ (let e = no_rejoin home_ends (request_leads_home a asks) t' t l in cc)
  ]

  -- a panel has one follower at most
  pub one_follower : (a b p : ℕ) → d.place a ≡ after p → d.place b ≡ after p → a ≡ b
  one_follower a b p e e' =
      one_waits a b (λ i. search arith) (λ i. search arith) (s.landed a p e) (s.landed b p e') (ap from_place e) (ap from_place e')

  -- a panel with a request has its arrow at itself, or a follower
  pub self_arrow_or_followed : (v : ℕ) → ¬ (d.place v ≡ idle) → (d.arrow v ≡ v) ⊎ ((a : ℕ) × (d.place a ≡ after v))
  self_arrow_or_followed v n = elim (last (s.own v n)) [
    | inl e ↦ search arith
    | inr t ↦ elim (into_request d t.0 v t.2) [ inl e ↦ inl e.1 | inr e ↦ inr (e.0, e.2) ]
  ]

  -- a panel with a request and no follower has its arrow at itself
  pub unfollowed_self_arrow : (v : ℕ) → ¬ (d.place v ≡ idle) → ((a : ℕ) → ¬ (d.place a ≡ after v)) → d.arrow v ≡ v
  unfollowed_self_arrow v asks alone = elim (self_arrow_or_followed v asks) [ inl e ↦ e | inr t ↦ absurd (alone t.0 t.1) ]

  -- the panel that a find comes to does not lead to the find's own request
  pub find_ahead : (a w u : ℕ) → d.place a ≡ flying w u → ¬ (Behind d u a)
  find_ahead a w u e k = request_cycle a (ap from_place e) (λ i. search arith) k

  -- a find goes from one panel to another
  pub find_moves : (a w u : ℕ) → d.place a ≡ flying w u → ¬ (w ≡ u)
  find_moves a w u e c = find_ahead a w u e (from (ap find_at (sym c)) (s.sent a w u e))

  -- a find does not come to the panel that asked
  pub find_away : (a w u : ℕ) → d.place a ≡ flying w u → ¬ (a ≡ u)
  find_away a w u e c = find_ahead a w u e (from (ap find_at (sym c)) (s.own a (λ i. search arith)))

  -- a find never meets an arrow back along its cable
  pub no_arrow_back : (a w u : ℕ) → d.place a ≡ flying w u → ¬ (d.arrow u ≡ w)
  no_arrow_back a w u e back =
      find_ahead a w u e
      (on (to_find d u (λ c. find_moves a w u e (sym back ∙ c))) (from (ap find_at back) (s.sent a w u e)))

  -- nor is there an arrow the same way along it
  pub no_arrow_along : (a w u : ℕ) → d.place a ≡ flying w u → ¬ (d.arrow w ≡ u)
  no_arrow_along a w u e along =
      find_ahead a w u e
      (from (ap find_at (sym along))
      (onward (to_find d w (λ c. find_moves a w u e (sym c ∙ along))) (λ c. search arith) (s.sent a w u e)))

  -- one find at most is on its way from one panel to another
  pub one_find : (a b w u : ℕ) → d.place a ≡ flying w u → d.place b ≡ flying w u → a ≡ b
  one_find a b w u e e' =
      one_waits a b (λ i. search arith) (λ i. search arith) (s.sent a w u e) (s.sent b w u e') (ap from_place e) (ap from_place e')

  -- and then none is on its way back
  pub no_find_against : (a b w u : ℕ) → d.place a ≡ flying w u → ¬ (d.place b ≡ flying u w)
  no_find_against a b w u e e' =
      find_ahead a w u e (follow (s.sent b u w e') (on (ap from_place e') (s.sent a w u e)))

  -- two arrows do not point at each other
  pub no_arrows_facing : (u v : ℕ) → d.arrow u ≡ v → d.arrow v ≡ u → u ≡ v
  no_arrows_facing u v e e' = elim (ℕ_discrete u v) [
    | yes c ↦ c
    | no n ↦ absurd
        (no_cycle home_ends (s.leads_home u) (to_find d u (λ c. n (sym c ∙ e)))
        (from (ap find_at e) (on (to_find d v (λ c. n (sym e' ∙ c))) (here (ap find_at e')))))
  ]

  -- what queues behind a panel that is followed queues behind the follower
  pub behind_follower : (v f : ℕ) → d.place f ≡ after v → (y : ℕ) → Behind d y v → Behind d y f
  behind_follower v f e y k = elim (last k) [
    | inl c ↦ search arith
    | inr t ↦ elim (into_request d t.0 v t.2) [
      | inl i ↦ absurd (self_arrow_unfollowed v i.1 f e)
      | inr i ↦ follow t.1 (here (i.1 ∙ ap request_of (one_follower i.0 f v i.2 e)))
    ]
  ]
