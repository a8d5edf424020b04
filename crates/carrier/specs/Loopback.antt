-- What comes back from a lane that two parcels were posted to. Assumes nothing.
use Rattle.std.specs.Prelude.{◌≡◌, ℕ, ◌<◌, cond, ◌⊎◌, [], ◌∷◌, length, Some, None, Ok, Err, Option, Result, nat_le, nat_lt, slice_set}
use Rattle.words.specs.declared.refusal.Refusal.{Refusal}
use Rattle.words.specs.declared.refusal.Refusal.TheVariants.{NoSuchLane, LaneEmpty, ParcelWaiting}
use Rattle.carrier.specs.Parcels.{Parcel, Lanes, waiting, at_place, longest_body, take_refusal, taken}
use Rattle.carrier.specs.Stored.{parcel_of}
use Rattle.carrier.specs.declared.loopback.Returned.{Returned}
use Rattle.carrier.specs.declared.storage.Packet.{Packet}

-- What a take into a packet answers and leaves: the packet holds the parcel at some place.
abbrev pub Drawn : Lanes → ℕ → Result Packet Refusal → Lanes → Type 0
Drawn lanes lane (Ok packet) lanes' =
    (take_refusal lanes lane longest_body ≡ None)
    × ((place : ℕ) × (place < length (waiting lanes lane)) × (parcel_of packet ≡ at_place (waiting lanes lane) place) × (lanes' ≡ taken lanes lane place))
Drawn lanes lane (Err e) lanes' = (take_refusal lanes lane longest_body ≡ Some e) × (lanes' ≡ lanes)

-- Why two parcels are not sent through a lane: there is no such lane, or something waits in it.
abbrev pub loopback_refusal : Lanes → ℕ → Option Refusal
loopback_refusal lanes lane =
    cond (nat_le (length lanes) lane) (Some NoSuchLane) (cond (nat_lt 0 (length (waiting lanes lane))) (Some ParcelWaiting) None)

-- What posting two parcels to an empty lane answers and leaves.
abbrev pub Filled : Lanes → ℕ → Parcel → Parcel → Result (Unit {0}) Refusal → Lanes → Type 0
Filled lanes lane p q (Ok _) lanes' = (loopback_refusal lanes lane ≡ None) × (lanes' ≡ slice_set lanes lane (p ∷ q ∷ []))
Filled lanes lane p q (Err e) lanes' = (loopback_refusal lanes lane ≡ Some e) × (lanes' ≡ lanes)

-- both parcels, in some order
abbrev pub Both : Parcel → Parcel → Parcel → Parcel → Type 0
Both p q x y = ((x ≡ p) × (y ≡ q)) ⊎ ((x ≡ q) × (y ≡ p))

-- What sending two parcels through a lane answers and leaves: both come back and no other, and all lanes are as they were.
abbrev pub Looped : Lanes → ℕ → Parcel → Parcel → Result Returned Refusal → Lanes → Type 0
Looped lanes lane p q (Ok got) lanes' =
    (loopback_refusal lanes lane ≡ None)
    × Both p q (parcel_of got.first) (parcel_of got.second)
    × (got.third ≡ Err LaneEmpty)
    × (lanes' ≡ lanes)
Looped lanes lane p q (Err e) lanes' = (loopback_refusal lanes lane ≡ Some e) × (lanes' ≡ lanes)
