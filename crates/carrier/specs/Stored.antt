-- What the storage of a carrier means: the parcels that it holds. Assumes nothing.
use Rattle.std.specs.Prelude.{◌≡◌, ℕ, ◌-◌, ◌<◌, ◌≤◌, cond, List, [], ◌∷◌, ◌++◌, map, length, take, drop, replicate, Some, None, Ok, Err, Option, Result, nat_lt}
use Rattle.carrier.specs.Parcels.{Parcel, Lanes, longest_body, lane_room, most_lanes, Gave}
use Rattle.std.specs.List.{remove}
use Rattle.words.specs.BodyWords.{body_words}
use Rattle.words.specs.declared.refusal.Refusal.{Refusal}
use Rattle.words.specs.declared.refusal.Refusal.TheVariants.{BodyTooLong, LaneFull, LaneEmpty, NoSuchLane}
use Rattle.carrier.specs.declared.storage.End.{End}
use Rattle.carrier.specs.declared.storage.End.TheVariants.{Oldest, Newest}
use Rattle.carrier.specs.declared.storage.Packet.{Packet}
use Rattle.carrier.specs.declared.storage.Queue.{Queue}
use Rattle.carrier.specs.declared.storage.Storage.{Storage}
use Rattle.carrier.specs.declared.traits.Received.{Received}

-- the parcel that a packet holds
abbrev pub parcel_of : Packet → Parcel
parcel_of packet = record { head = packet.head; body = body_words packet.body }

-- What making a packet answers.
abbrev pub Packed : ℕ → List ℕ → Result Packet Refusal → Type 0
Packed head body (Ok packet) = (length body ≤ longest_body) × (parcel_of packet ≡ record { head = head; body = body })
Packed head body (Err e) = (longest_body < length body) × (e ≡ BodyTooLong)

-- so many elements of a ring, from a place on: past its last element comes its first again
abbrev pub ring : {X : Type 0} → List X → ℕ → ℕ → List X
ring slots first held = take held (drop first (slots ++ slots))

-- the parcels that wait in a queue, in order of arrival
abbrev pub parcels_of : Queue → List Parcel
parcels_of queue = ring (map parcel_of queue.packets) queue.first queue.held

-- what waits in queues, each that of one lane
abbrev pub lanes_in : List Queue → Lanes
lanes_in queues = map parcels_of queues

-- what waits on a carrier with this storage
abbrev pub lanes_of : Storage → Lanes
lanes_of storage = lanes_in (take storage.count storage.queues)

-- What adding a parcel to a lane answers and leaves.
abbrev pub Pushed : List Parcel → Parcel → Result (Unit {0}) Refusal → List Parcel → Type 0
Pushed parcels parcel (Ok _) parcels' = (length parcels < lane_room) × (parcels' ≡ parcels ++ parcel ∷ [])
Pushed parcels parcel (Err e) parcels' = (lane_room ≤ length parcels) × (e ≡ LaneFull) × (parcels' ≡ parcels)

-- the place of the parcel at an end of a lane
abbrev pub place_of : End → List Parcel → ℕ
place_of Oldest parcels = 0
place_of Newest parcels = length parcels - 1

-- What removing the parcel at a place from a lane answers and leaves.
abbrev pub Pulled : ℕ → List Parcel → List ℕ → Result Received Refusal → List ℕ → List Parcel → Type 0
Pulled place parcels space (Ok got) space' parcels' = Gave place parcels space got space' × (parcels' ≡ remove parcels place)
Pulled place parcels space (Err e) space' parcels' = (length parcels ≡ 0) × (e ≡ LaneEmpty) × (space' ≡ space) × (parcels' ≡ parcels)

-- Why a carrier with so many lanes is not made.
abbrev pub new_refusal : ℕ → Option Refusal
new_refusal count = cond (nat_lt most_lanes count) (Some NoSuchLane) None

-- What making something with so many lanes answers: all its lanes are empty.
abbrev pub Opened : {X : Type 0} → (X → Lanes) → ℕ → Result X Refusal → Type 0
Opened lanes count (Ok made) = (new_refusal count ≡ None) × (lanes made ≡ replicate count [])
Opened lanes count (Err e) = new_refusal count ≡ Some e
