use Rattle.std.proofs.Common.{◌≡◌, ◌-◌, sym, ap, ◌∙◌, arith}
use Rattle.carrier.specs.Stored.{parcels_of, place_of}
use Rattle.carrier.specs.Queues.{held_is, pulled_is, first_after}
use Rattle.carrier.proofs.storage.Queue.pull.Goals as goal
use Rattle.carrier.proofs.storage.Queue.pull.Goals.{in-Oldest, in-Newest}

pub returns : goal.returns
returns c =
    let queue = c.args.self.now in
    let gave = c.give-received.ensures in
    let place : c.match-end.place.0 ≡ place_of c.args.end (parcels_of queue) =
    elim c.match-end.branch [
      | in-Oldest w ↦ ap (λ p. p.0) w.place-is ∙ sym (ap (λ e. place_of e (parcels_of queue)) w.in-Oldest.is)
      | in-Newest w ↦ ap (λ p. p.0) w.place-is ∙ ap (λ n. n - 1) (sym (held_is queue)) ∙ sym (ap (λ e. place_of e (parcels_of queue)) w.in-Newest.is)
    ] in
    let first : c.match-end.place.1 ≡ first_after queue c.args.end =
    elim c.match-end.branch [
      | in-Oldest w ↦ ap (λ p. p.1) w.place-is ∙ sym (ap (first_after queue) w.in-Oldest.is)
      | in-Newest w ↦ ap (λ p. p.1) w.place-is ∙ sym (ap (first_after queue) w.in-Newest.is)
    ] in
    pulled_is queue c.args.end c.match-end.place.0 c.match-end.place.1 c.index-self-self.result c.args.space.now c.give-received.result c.give-received.new.space (omega arith) place first gave.head gave.size gave.space
