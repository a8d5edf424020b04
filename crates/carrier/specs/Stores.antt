-- The queues of lanes as what waits on the lanes. Assumes nothing.
use Rattle.std.specs.Prelude.{◌≡◌, ℕ, zero, suc, ◌<◌, ◌≤◌, List, [], ◌∷◌, ◌++◌, map, length, take, set, replicate, Ok, Err, Result, slice_index_or, slice_set, refl}
use Rattle.std.proofs.Common.{⊎_elim, sym, ap, subst, ◌∙◌, arith}
use Rattle.std.specs.List.{remove}
use Rattle.std.proofs.lemmas.List.{length-map, get_or-map, map-set, set-get_or, take-replicate, get_or_past, length-take}
use Rattle.std.proofs.lemmas.Bool.{cases_lt}
use Rattle.std.proofs.lemmas.Bool.Decides.{nat_tests}
use Rattle.words.specs.declared.refusal.Refusal.{Refusal}
use Rattle.carrier.specs.declared.storage.Packet.{Packet}
use Rattle.carrier.specs.declared.storage.Queue.{Queue}
use Rattle.carrier.specs.declared.storage.Storage.{Storage}
use Rattle.carrier.specs.declared.traits.Received.{Received}
use Rattle.carrier.specs.Parcels.{Parcel, waiting, at_place, most_lanes, longest_body, Gave, Posted, TakenAt}
use Rattle.carrier.specs.Stored.{parcel_of, parcels_of, lanes_in, lanes_of, Pushed, Pulled}
use Rattle.carrier.specs.Queues.{held_is}
use Rattle.carrier.specs.Rings.{ring_at}

module _ (queues : List Queue) (lane : ℕ) where
  pub lanes_length : length (lanes_in queues) ≡ length queues
  lanes_length = length-map queues parcels_of

  pub waiting_is : (other : Queue) → lane < length queues → waiting (lanes_in queues) lane ≡ parcels_of (slice_index_or queues lane other)
  waiting_is other here = get_or-map parcels_of queues lane other [] here

  -- a lane is changed by a change of its queue
  changed_is : (queue : Queue) (parcels : List Parcel) → parcels_of queue ≡ parcels → lanes_in (slice_set queues lane queue) ≡ slice_set (lanes_in queues) lane parcels
  changed_is queue parcels e = map-set parcels_of queues lane queue ∙ ap (set (lanes_in queues) lane) e

  -- and is as it was where its queue holds what it held
  kept_is : (other queue : Queue) → lane < length queues → parcels_of queue ≡ parcels_of (slice_index_or queues lane other) → lanes_in (slice_set queues lane queue) ≡ lanes_in queues
  kept_is other queue here e = changed_is queue _ (e ∙ sym (waiting_is other here)) ∙ set-get_or (lanes_in queues) lane []

  -- what a post to a lane does, from what a push to its queue does
  pub post_by_push : (other queue : Queue) (head : ℕ) (body : List ℕ) (parcel : Parcel) (r : Result (Unit {0}) Refusal) → lane < length queues → length body ≤ longest_body → parcel ≡ record { head = head; body = body } → Pushed (parcels_of (slice_index_or queues lane other)) parcel r (parcels_of queue) → Posted (lanes_in queues) lane head body r (lanes_in (slice_set queues lane queue))
  post_by_push other queue head body parcel (Ok _) here short is told =
      let w = waiting_is other here in
      (grind (arith, nat_tests, ap length w, lanes_length), changed_is queue _ (told.1 ∙ (λ i. sym w i ++ is i ∷ [])))
  post_by_push other queue head body parcel (Err e) here short is told =
      let w = waiting_is other here in
      (grind (arith, nat_tests, ap length w, lanes_length), kept_is other queue here told.2)

  -- what a take from a lane does, from what a pull from its queue does
  pub take_by_pull : (other queue : Queue) (place : List Parcel → ℕ) (space : List ℕ) (r : Result Received Refusal) (space' : List ℕ) → lane < length queues → longest_body ≤ length space → Pulled (place (parcels_of (slice_index_or queues lane other))) (parcels_of (slice_index_or queues lane other)) space r space' (parcels_of queue) → TakenAt (place (waiting (lanes_in queues) lane)) (lanes_in queues) lane space r space' (lanes_in (slice_set queues lane queue))
  take_by_pull other queue place space (Ok got) space' here enough told =
      let w = waiting_is other here in
      let some = told.0.within in (
        grind (arith, nat_tests, ap length w, lanes_length),
        subst (λ ps. Gave (place ps) ps space got space') (sym w) told.0,
        changed_is queue _ (told.1 ∙ ap (λ ps. remove ps (place ps)) (sym w)),
      )
  take_by_pull other queue place space (Err e) space' here enough told =
      let w = waiting_is other here in
      (grind (arith, nat_tests, ap length w, lanes_length), told.2, kept_is other queue here told.3)

-- the lanes of queues in which nothing waits
pub none_in : (queue : Queue) (n m : ℕ) → parcels_of queue ≡ [] → n ≤ m → lanes_in (take n (replicate m queue)) ≡ replicate n []
none_in queue n m e le = ap lanes_in (take-replicate n m queue le) ∙ each n
  where
    each : (n : ℕ) → lanes_in (replicate n queue) ≡ replicate n []
    each zero = refl
    each (suc n) = λ i. e i ∷ each n i

-- there are at most as many lanes as a carrier may have
pub few_lanes : (storage : Storage) → length (lanes_of storage) ≤ most_lanes
few_lanes storage = simp (length-map, length-take) (omega arith)

-- every body is short
short_slots : (packets : List Packet) (i : ℕ) → length (at_place (map parcel_of packets) i).body ≤ longest_body
short_slots [] i = omega arith
short_slots (packet ∷ packets) zero = simp length-take (omega arith)
short_slots (packet ∷ packets) (suc i) = short_slots packets i

short_queue : (queue : Queue) (place : ℕ) → length (at_place (parcels_of queue) place).body ≤ longest_body
short_queue queue place =
    let slots = map parcel_of queue.packets in
    let long = length-map queue.packets parcel_of in
    let held = held_is queue in
    ⊎_elim
    (λ below. subst (λ p. length p.body ≤ longest_body) (sym (ring_at slots queue.first (omega arith) queue.held place _ (omega arith) below)) (short_slots queue.packets _))
    (λ past. subst (λ p. length p.body ≤ longest_body) (sym (get_or_past (parcels_of queue) place _ (omega arith))) (omega arith))
    (cases_lt place queue.held)

pub short_lanes : (queues : List Queue) (lane place : ℕ) → length (at_place (waiting (lanes_in queues) lane) place).body ≤ longest_body
short_lanes [] lane place = omega arith
short_lanes (queue ∷ queues) zero place = short_queue queue place
short_lanes (queue ∷ queues) (suc lane) place = short_lanes queues lane place
