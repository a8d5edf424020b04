-- What waits on a carrier, and what each call on it answers and leaves. Assumes nothing.
use Rattle.std.specs.Prelude.{◌≡◌, ℕ, ◌<◌, Bool, true, false, cond, List, [], ◌∷◌, ◌++◌, length, Some, None, Ok, Err, Option, Result, nat_le, nat_lt, slice_index_or, slice_set}
use Rattle.std.specs.List.{remove}
-- the most words that a body has, and a space after a body was laid into it
pub use Rattle.words.specs.Bodies.{longest_body, laid}
use Rattle.words.specs.declared.refusal.Refusal.{Refusal}
use Rattle.words.specs.declared.refusal.Refusal.TheVariants.{NoSuchLane, LaneEmpty, LaneFull, BodyTooLong, SpaceTooShort}
use Rattle.carrier.specs.declared.traits.Received.{Received}

-- A parcel is what travels on a lane: a head word and a body of words.
pub record Parcel : Type 0 where
  pub head : ℕ
  pub body : List ℕ

-- What waits on a carrier: for each of its lanes, which are numbered from 0, the parcels in order of arrival.
abbrev pub Lanes : Type 0
Lanes = List (List Parcel)

-- the parcels that wait in a lane, none where there is no such lane
abbrev pub waiting : Lanes → ℕ → List Parcel
waiting lanes lane = slice_index_or lanes lane []

-- the parcel at a place among waiting parcels: place 0 has the oldest
abbrev pub at_place : List Parcel → ℕ → Parcel
at_place parcels place = slice_index_or parcels place (record { head = 0; body = [] })

-- the most lanes that a carrier has
abbrev pub most_lanes : ℕ
most_lanes = 64

-- the number of waiting parcels from which on a lane takes no other
abbrev pub lane_room : ℕ
lane_room = 2

-- the words of space that a take asks for, whatever waits in the lane
abbrev pub enough_space : List Parcel → ℕ
enough_space parcels = longest_body

-- Why a count is refused, the first reason that applies.
abbrev pub count_refusal : Lanes → ℕ → Option Refusal
count_refusal lanes lane = cond (nat_le (length lanes) lane) (Some NoSuchLane) None

-- Why a post of a body of so many words is refused, the first reason that applies.
abbrev pub post_refusal : Lanes → ℕ → ℕ → Option Refusal
post_refusal lanes lane size =
    cond (nat_le (length lanes) lane) (Some NoSuchLane)
    (cond (nat_lt longest_body size) (Some BodyTooLong)
    (cond (nat_le lane_room (length (waiting lanes lane))) (Some LaneFull) None))

-- Why a take into a space of so many words is refused, the first reason that applies.
abbrev pub take_refusal : Lanes → ℕ → ℕ → Option Refusal
take_refusal lanes lane size =
    cond (nat_le (length lanes) lane) (Some NoSuchLane)
    (cond (nat_lt size (enough_space (waiting lanes lane))) (Some SpaceTooShort)
    (cond (nat_le (length (waiting lanes lane)) 0) (Some LaneEmpty) None))

-- the lanes after a post: the parcel stands at the end of its lane
abbrev pub posted : Lanes → ℕ → Parcel → Lanes
posted lanes lane parcel = slice_set lanes lane (waiting lanes lane ++ parcel ∷ [])

-- the lanes after a take: the parcel at the place is gone, the others of its lane are in their order
abbrev pub taken : Lanes → ℕ → ℕ → Lanes
taken lanes lane place = slice_set lanes lane (remove (waiting lanes lane) place)

-- What count answers.
abbrev pub Counted : Lanes → ℕ → Result ℕ Refusal → Type 0
Counted lanes lane (Ok n) = (count_refusal lanes lane ≡ None) × (n ≡ length (waiting lanes lane))
Counted lanes lane (Err e) = count_refusal lanes lane ≡ Some e

-- What post answers and leaves.
abbrev pub Posted : Lanes → ℕ → ℕ → List ℕ → Result (Unit {0}) Refusal → Lanes → Type 0
Posted lanes lane head body (Ok _) lanes' = (post_refusal lanes lane (length body) ≡ None) × (lanes' ≡ posted lanes lane (record { head = head; body = body }))
Posted lanes lane head body (Err e) lanes' = (post_refusal lanes lane (length body) ≡ Some e) × (lanes' ≡ lanes)

-- What a take gave out, of the parcels that waited in its lane: the parcel at a place.
pub record Gave (place : ℕ) (parcels : List Parcel) (space : List ℕ) (got : Received) (space' : List ℕ) : Type 0 where
  pub within : place < length parcels
  pub head_is : got.head ≡ (at_place parcels place).head
  pub size_is : got.size ≡ length (at_place parcels place).body
  pub space_is : space' ≡ laid (at_place parcels place).body space

-- What a take that gives the parcel at a place answers and leaves.
abbrev pub TakenAt : ℕ → Lanes → ℕ → List ℕ → Result Received Refusal → List ℕ → Lanes → Type 0
TakenAt place lanes lane space (Ok got) space' lanes' =
    (take_refusal lanes lane (length space) ≡ None) × Gave place (waiting lanes lane) space got space' × (lanes' ≡ taken lanes lane place)
TakenAt place lanes lane space (Err e) space' lanes' =
    (take_refusal lanes lane (length space) ≡ Some e) × (space' ≡ space) × (lanes' ≡ lanes)

-- What take answers and leaves: it gives the parcel at some place.
abbrev pub Taken : Lanes → ℕ → List ℕ → Result Received Refusal → List ℕ → Lanes → Type 0
Taken lanes lane space r space' lanes' = (place : ℕ) × TakenAt place lanes lane space r space' lanes'

-- whether a parcel waits on any lane
abbrev pub any_waits : Lanes → Bool
any_waits [] = false
any_waits ([] ∷ lanes) = any_waits lanes
any_waits ((parcel ∷ parcels) ∷ lanes) = true
