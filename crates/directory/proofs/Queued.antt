-- The laws of the queue, panel by panel: what they say of one request, by its place. Assumes nothing.
use Rattle.std.proofs.Common.{◌≡◌, ℕ, refl, subst, arith}
use Rattle.directory.specs.Directory.{Directory, Place, idle, flying, after, front}
use Rattle.directory.specs.Queue.{Behind, Sound}

-- the laws of the request of a that stands at the place
abbrev pub Queued : Directory → ℕ → Place → Type 0
Queued d a idle = Unit {0}
Queued d a (flying w u) = Behind d a a × Behind d w a
Queued d a (after p) = Behind d a a × Behind d p a
Queued d a front = Behind d a a

-- they survive with the ways to the request
pub still_queued : {d : Directory} → Sound d → (d' : Directory) (a : ℕ) → ((v : ℕ) → Behind d v a → Behind d' v a)
    → Queued d' a (d.place a)
still_queued {d} s d' a old = go (d.place a) refl
  where
    go : (q : Place) → d.place a ≡ q → Queued d' a q
    go idle e = tt
    go (flying w u) e = (old a (s.own a (λ i. search arith)), old w (s.sent a w u e))
    go (after p) e = (old a (s.own a (λ i. search arith)), old p (s.landed a p e))
    go front e = old a (s.own a (λ i. search arith))

-- the laws, from those of each panel
pub sound_from : (d : Directory) → ((a : ℕ) → Queued d a (d.place a)) → (h : ℕ) → d.place h ≡ front → ((v : ℕ) → Behind d v h) → Sound d
sound_from d all h e ways = record {
  home = h;
  home_front = e;
  leads_home = ways;
  own = λ a n. go a (d.place a) refl (all a) n;
  sent = λ a w u e. (subst (Queued d a) e (all a)).1;
  landed = λ a p e. (subst (Queued d a) e (all a)).1;
}
  where
    go : (a : ℕ) (q : Place) → d.place a ≡ q → Queued d a q → ¬ (d.place a ≡ idle) → Behind d a a
    go a idle e k n = absurd (n e)
    go a (flying w u) e k n = k.0
    go a (after p) e k n = k.0
    go a front e k n = k
