-- The cables of a tree of n panels, each of which joins a panel and its parent, and that every run of the n panels keeps to
-- them. Assumes nothing.
use Rattle.std.proofs.Common.{◌≡◌, ℕ, ◌<◌, ◌⊎◌, List, refl, inl, inr, arith}
use Rattle.std.specs.List.{AllByRecursion}
use Rattle.directory.specs.Cables.{Cabling, Wired}
use Rattle.directory.specs.Directory.{Directory, Move, request, pass, land, hand_on, Does, Run, empty, more, Tree, Opening}
use Rattle.directory.specs.Law.{Within}
use Rattle.directory.specs.Queue.{Sound}
use Rattle.directory.proofs.Runs.{move_sound}
use Rattle.directory.proofs.Wiring.{request_wired, pass_wired, land_wired, hand_on_wired, opening_wired}

-- a cable joins a panel and its parent, either way round
abbrev pub Joined : (ℕ → ℕ) → ℕ → ℕ → ℕ → Type 0
Joined parent n u v = (u < n) × (v < n) × (((0 < u) × (v ≡ parent u)) ⊎ ((0 < v) × (u ≡ parent v)))

pub tree_cabling : (parent : ℕ → ℕ) (n : ℕ) → Cabling n (Joined parent n)
tree_cabling parent n = record {
  within = λ u v c. (c.0, c.1);
  back = λ u v c. (c.1, c.0, elim c.2 [ inl k ↦ inr k | inr k ↦ inl k ]);
}

-- the opening directory keeps to them
pub tree_opening : {parent : ℕ → ℕ} {n : ℕ} {d : Directory} → Tree parent → 0 < n → Opening parent d → Wired n (Joined parent n) d
tree_opening tree 0<n o = opening_wired 0<n (λ v 0<v v<n. (v<n, omega (arith, tree v 0<v), inl (0<v, refl))) o

module _ {parent : ℕ → ℕ} (n : ℕ) where
  -- each move of the n panels keeps to the cables
  pub move_wired : (m : Move) {d d' : Directory} → Sound d → Wired n (Joined parent n) d → Within n m → Does m d d' → Wired n (Joined parent n) d'
  move_wired (request v) s wired v<n m = request_wired (tree_cabling parent n) s v<n wired m
  move_wired (pass a w u) s wired _ m = pass_wired (tree_cabling parent n) wired m
  move_wired (land a w u) s wired _ m = land_wired (tree_cabling parent n) wired m
  move_wired (hand_on v f) s wired _ m = hand_on_wired (tree_cabling parent n) wired m

  pub run_wired : {ms : List Move} {d e : Directory} → Sound d → Wired n (Joined parent n) d → AllByRecursion (Within n) ms → Run ms d e → Wired n (Joined parent n) e
  run_wired s wired all empty = wired
  run_wired s wired all (more {m = m} does run) = run_wired (move_sound m s does) (move_wired m s wired all.0 does) all.1 run
