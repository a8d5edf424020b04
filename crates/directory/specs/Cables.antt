-- The cables under a directory of n panels: arrows point along them and finds go along them. Assumes nothing.
use Rattle.std.specs.Prelude.{◌≡◌, ℕ, ◌<◌}
use Rattle.directory.specs.Directory.{Directory, idle, flying}

-- a cable joins two of the n panels, either way round
pub record Cabling (n : ℕ) (Cable : ℕ → ℕ → Type 0) : Type 0 where
  pub within : (u v : ℕ) → Cable u v → (u < n) × (v < n)
  pub back : (u v : ℕ) → Cable u v → Cable v u

-- the directory keeps to the panels and their cables
pub record Wired (n : ℕ) (Cable : ℕ → ℕ → Type 0) (d : Directory) : Type 0 where
  -- the arrow of a panel is the panel itself, or points along a cable
  pub arrows : (u : ℕ) → u < n → ¬ (d.arrow u ≡ u) → Cable u (d.arrow u)
  -- a find is on its way along a cable
  pub finds : (a w u : ℕ) → d.place a ≡ flying w u → Cable w u
  -- only panels have requests
  pub requests : (a : ℕ) → ¬ (d.place a ≡ idle) → a < n
