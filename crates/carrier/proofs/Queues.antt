-- A lane by the place of its queue, before and after a change of that queue. Assumes nothing.
use Rattle.std.proofs.Common.{◌≡◌, ℕ, ◌<◌, ◌≤◌, List, length, Result, slice_index_or, slice_set, sym, subst}
use Rattle.words.specs.declared.refusal.Refusal.{Refusal}
use Rattle.carrier.specs.declared.storage.Queue.{Queue}
use Rattle.carrier.specs.declared.traits.Received.{Received}
use Rattle.carrier.specs.Parcels.{Parcel, waiting, longest_body, Posted, TakenAt}
use Rattle.carrier.specs.Stored.{parcels_of, lanes_in, Pushed, Pulled}
use Rattle.carrier.specs.Stores.{post_by_push, take_by_pull}

module _ (queues : List Queue) (k : ℕ) (other queue : Queue) where
  pub post_at : (head : ℕ) (body : List ℕ) (parcel : Parcel) (r : Result (Unit {0}) Refusal) → Pushed (parcels_of (slice_index_or queues k other)) parcel r (parcels_of queue) → (lane : ℕ) → k ≡ lane → lane < length queues → length body ≤ longest_body → parcel ≡ record { head = head; body = body } → Posted (lanes_in queues) lane head body r (lanes_in (slice_set queues k queue))
  post_at head body parcel r told lane same here short is =
      let below : k < length queues = subst (λ i. i < length queues) (sym same) here in
      subst (λ i. Posted (lanes_in queues) i head body r (lanes_in (slice_set queues k queue))) same (post_by_push queues k other queue head body parcel r below short is told)

  pub take_at : (place : List Parcel → ℕ) (space : List ℕ) (r : Result Received Refusal) (space' : List ℕ) → Pulled (place (parcels_of (slice_index_or queues k other))) (parcels_of (slice_index_or queues k other)) space r space' (parcels_of queue) → (lane : ℕ) → k ≡ lane → lane < length queues → longest_body ≤ length space → TakenAt (place (waiting (lanes_in queues) lane)) (lanes_in queues) lane space r space' (lanes_in (slice_set queues k queue))
  take_at place space r space' told lane same here enough =
      let below : k < length queues = subst (λ i. i < length queues) (sym same) here in
      subst (λ i. TakenAt (place (waiting (lanes_in queues) i)) (lanes_in queues) i space r space' (lanes_in (slice_set queues k queue))) same (take_by_pull queues k other queue place space r space' below enough told)
