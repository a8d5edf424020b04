-- Queues as the lists of their parcels. Assumes nothing.
use Rattle.std.specs.Prelude.{◌≡◌, ℕ, ◌+◌, ◌-◌, ◌%◌, ◌<◌, List, [], ◌∷◌, ◌++◌, map, length, slice_index_or, slice_set}
use Rattle.std.proofs.Common.{ap, sym, subst, ◌∙◌, arith}
use Rattle.std.specs.List.{remove}
use Rattle.std.proofs.lemmas.List as lists
use Rattle.carrier.specs.declared.storage.Queue.{Queue}
use Rattle.carrier.specs.declared.storage.End.{End}
use Rattle.carrier.specs.declared.storage.End.TheVariants.{Oldest, Newest}
use Rattle.carrier.specs.declared.storage.Packet.{Packet}
use Rattle.carrier.specs.declared.traits.Received.{Received}
use Rattle.carrier.specs.Parcels.{lane_room, at_place, laid, Gave}
use Rattle.carrier.specs.Stored.{parcel_of, parcels_of, ring, place_of}
use Rattle.carrier.specs.Rings.{length_ring, ring_at, ring_push, ring_oldest, ring_newest}

pub held_is : (queue : Queue) → length (parcels_of queue) ≡ queue.held
held_is queue =
    let whole = lists.length-map queue.packets parcel_of in
    length_ring (map parcel_of queue.packets) queue.first (omega arith) queue.held (omega arith)

-- the parcels of the packets of a queue, after one was put into the next free slot
pub pushed_is : (queue : Queue) (packet : Packet) → queue.held < lane_room → ring (map parcel_of (slice_set queue.packets ((queue.first + queue.held) % lane_room) packet)) queue.first (queue.held + 1) ≡ parcels_of queue ++ parcel_of packet ∷ []
pushed_is queue packet room =
    let long : length (map parcel_of queue.packets) ≡ lane_room = omega (arith, lists.length-map queue.packets parcel_of) in
    ap (λ l. ring l queue.first (queue.held + 1)) (lists.map-set parcel_of queue.packets _ packet)
    ∙ ap (λ n. ring (slice_set (map parcel_of queue.packets) ((queue.first + queue.held) % n) (parcel_of packet)) queue.first (queue.held + 1)) (sym long)
    ∙ ring_push (map parcel_of queue.packets) queue.first (omega arith) queue.held (parcel_of packet) (omega arith)

module _ (queue : Queue) where
  long : length (map parcel_of queue.packets) ≡ lane_room
  long = omega (arith, lists.length-map queue.packets parcel_of)

  -- the packet in the slot of a place
  abbrev pub slot : ℕ → Packet → Packet
  slot place other = slice_index_or queue.packets ((queue.first + place) % lane_room) other

  -- it holds the parcel at that place
  slot_is : (place : ℕ) (other : Packet) → place < queue.held → at_place (parcels_of queue) place ≡ parcel_of (slot place other)
  slot_is place other below =
      let slots = map parcel_of queue.packets in
      let inside : (queue.first + place) % lane_room < length queue.packets = omega arith in
      ring_at slots queue.first (omega (arith, long)) queue.held place _ (omega (arith, long)) below
      ∙ ap (λ n. at_place slots ((queue.first + place) % n)) long
      ∙ lists.get_or-map parcel_of queue.packets _ other _ inside

  -- where the first slot is after the parcel at an end is gone
  abbrev pub first_after : End → ℕ
  first_after Oldest = (queue.first + 1) % lane_room
  first_after Newest = queue.first

  removed_is : (end : End) → 0 < queue.held → ring (map parcel_of queue.packets) (first_after end) (queue.held - 1) ≡ remove (parcels_of queue) (place_of end (parcels_of queue))
  removed_is Oldest some =
      let slots = map parcel_of queue.packets in
      ap (λ n. ring slots ((queue.first + 1) % n) (queue.held - 1)) (sym long)
      ∙ ring_oldest slots queue.first (omega (arith, long)) queue.held (omega (arith, long))
  removed_is Newest some =
      let slots = map parcel_of queue.packets in
      ring_newest slots queue.first (omega (arith, long)) queue.held some (omega (arith, long))
      ∙ ap (λ n. remove (parcels_of queue) (n - 1)) (sym (held_is queue))

  -- what a queue gives and leaves whose packet at an end was given out
  pub pulled_is : (end : End) (place first : ℕ) (other : Packet) (space : List ℕ) (got : Received) (space' : List ℕ) → 0 < queue.held → place ≡ place_of end (parcels_of queue) → first ≡ first_after end → got.head ≡ (parcel_of (slot place other)).head → got.size ≡ length (parcel_of (slot place other)).body → space' ≡ laid (parcel_of (slot place other)).body space → Gave (place_of end (parcels_of queue)) (parcels_of queue) space got space' × (ring (map parcel_of queue.packets) first (queue.held - 1) ≡ remove (parcels_of queue) (place_of end (parcels_of queue)))
  pulled_is end place first other space got space' some at after head size room =
      let held = held_is queue in
      let below : place < queue.held = elim end as (λ e. place ≡ place_of e (parcels_of queue) → place < queue.held) [ Oldest ↦ λ at. omega arith | Newest ↦ λ at. omega arith ] at in
      let is = sym (slot_is place other below) in
      let gave : Gave place (parcels_of queue) space got space' = record {
        within = omega arith;
        head_is = head ∙ ap (λ p. p.head) is;
        size_is = size ∙ ap (λ p. length p.body) is;
        space_is = room ∙ ap (λ p. laid p.body space) is;
      } in
      (subst (λ n. Gave n (parcels_of queue) space got space') at gave, ap (λ n. ring (map parcel_of queue.packets) n (queue.held - 1)) after ∙ removed_is end some)
