-- When a parcel waits on some lane, when none does, and how many lanes there are. Assumes nothing.
use Rattle.std.proofs.Common.{◌≡◌, ℕ, zero, suc, ◌<◌, ◌≤◌, true, false, Option, Some, None, [], ◌∷◌, length, refl, arith}
use Rattle.std.specs.Option.{MatchOption, unwrap_or}
use Rattle.carrier.specs.Parcels.{Lanes, waiting, any_waits}

-- the first number that is no lane is how many lanes there are
pub first_past : (n : ℕ) (r : Option ℕ) → n ≤ 64 → MatchOption r ((k : ℕ) → 0 ≤ k → k < 64 → k < n) (λ i. (0 ≤ i) × (i < 64) × (n ≤ i) × ((k : ℕ) → 0 ≤ k → k < i → k < n)) → unwrap_or r 64 ≡ n
first_past n None few found = grind (arith, found 63)
first_past n (Some i) few found = grind (arith, found.3 n)

pub some_waits : (lanes : Lanes) (lane : ℕ) → 0 < length (waiting lanes lane) → any_waits lanes ≡ true
some_waits [] lane h = absurd (omega arith)
some_waits ([] ∷ lanes) zero h = absurd (omega arith)
some_waits ([] ∷ lanes) (suc lane) h = some_waits lanes lane h
some_waits ((parcel ∷ parcels) ∷ lanes) lane h = refl

pub none_waits : (lanes : Lanes) → ((lane : ℕ) → lane < length lanes → length (waiting lanes lane) ≡ 0) → any_waits lanes ≡ false
none_waits [] h = refl
none_waits ([] ∷ lanes) h = none_waits lanes (λ lane l. h (suc lane) (omega arith))
none_waits ((parcel ∷ parcels) ∷ lanes) h = absurd (omega (arith, h 0 (omega arith)))

-- where no parcel waits, each lane is empty
pub empty_lanes : (lanes : Lanes) → any_waits lanes ≡ false → (lane : ℕ) → waiting lanes lane ≡ []
empty_lanes [] e lane = refl
empty_lanes ([] ∷ lanes) e zero = refl
empty_lanes ([] ∷ lanes) e (suc lane) = empty_lanes lanes e lane
empty_lanes ((parcel ∷ parcels) ∷ lanes) e lane = absurd (let z : ◌≡◌ {A = ℕ} 0 1 = cc in omega arith)
