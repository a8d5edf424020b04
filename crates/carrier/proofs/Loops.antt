-- A lane of any carrier through posts and takes. Assumes nothing.
use Rattle.std.proofs.Common.{◌≡◌, ℕ, zero, suc, ◌<◌, ◌≤◌, List, [], ◌∷◌, ◌++◌, length, take, set, Some, None, Ok, Err, Option, Result, sym, ap, ◌∙◌, inl, inr, arith, length-set, length-take}
use Rattle.std.specs.List.{remove}
use Rattle.std.proofs.lemmas.List.Edits.{length-remove}
use Rattle.std.proofs.lemmas.List.{get_or-set_same, set-set, set-get_or, nil_from_length, take_at}
use Rattle.std.proofs.lemmas.Bool.Decides.{nat_tests}
use Rattle.words.specs.declared.refusal.Refusal.{Refusal}
use Rattle.words.specs.declared.refusal.Refusal.TheVariants.{LaneEmpty}
use Rattle.carrier.specs.declared.storage.Packet.{Packet}
use Rattle.carrier.specs.Loopback.{loopback_refusal, Drawn, Filled, Both}
use Rattle.carrier.specs.Parcels.{Parcel, Lanes, waiting, at_place, longest_body, lane_room, post_refusal, take_refusal, posted, laid, Posted}
use Rattle.carrier.specs.Stored.{parcel_of}

-- a parcel is read back from a space that its body was laid into
pub read_back : (parcel : Parcel) (head size : ℕ) (space space' : List ℕ) → head ≡ parcel.head → size ≡ length parcel.body → space' ≡ laid parcel.body space → ◌≡◌ {A = Parcel} (record { head = head; body = take size space' }) parcel
read_back parcel head size space space' same long whole =
    let body : take size space' ≡ parcel.body = ap (take size) whole ∙ take_at parcel.body _ size (sym long) in
    λ i. record { head = same i; body = body i }

-- what is accepted is not refused
pub not_both : {o : Option Refusal} {e : Refusal} → o ≡ None → o ≡ Some e → ⊥
not_both accepted refused = let z : ◌≡◌ {A = ℕ} 0 1 = cc in omega arith

-- what waits is as it was, but that these parcels wait in this lane, which was there
record Holds (lanes : Lanes) (lane : ℕ) (parcels : List Parcel) (after : Lanes) : Type 0 where
  pub here : lane < length lanes
  pub is : after ≡ set lanes lane parcels

module _ {lanes : Lanes} {lane : ℕ} where
  -- a lane that is there and empty
  holds_none : loopback_refusal lanes lane ≡ None → Holds lanes lane [] lanes
  holds_none free =
      let none : length (waiting lanes lane) ≡ 0 = grind (arith, nat_tests) in
      let empty = nil_from_length (waiting lanes lane) none in
      record { here = grind (arith, nat_tests); is = sym (ap (set lanes lane) (sym empty) ∙ set-get_or lanes lane []) }

  module _ {parcels : List Parcel} {after : Lanes} (h : Holds lanes lane parcels after) where
    waits : waiting after lane ≡ parcels
    waits = ap (λ l. waiting l lane) h.is ∙ get_or-set_same lanes lane parcels [] h.here

    as_many : length after ≡ length lanes
    as_many = ap length h.is ∙ length-set lanes lane parcels

    changed : {next : Lanes} (parcels' : List Parcel) → next ≡ set after lane parcels' → Holds lanes lane parcels' next
    changed parcels' e = record { here = h.here; is = e ∙ ap (λ l. set l lane parcels') h.is ∙ set-set lanes lane parcels parcels' }

    -- a packet is posted where there is room
    holds_sent : {next : Lanes} (packet : Packet) (body : List ℕ) → body ≡ (parcel_of packet).body → next ≡ posted after lane (record { head = packet.head; body = body }) → Holds lanes lane (parcels ++ parcel_of packet ∷ []) next
    holds_sent packet body whole e = changed _ (e ∙ ap (set after lane) (λ i. waits i ++ record { head = packet.head; body = whole i } ∷ []))

    send_free : (packet : Packet) (body : List ℕ) → body ≡ (parcel_of packet).body → length parcels < lane_room → post_refusal after lane (length body) ≡ None
    send_free packet body whole room =
        let short : length body ≤ longest_body = omega (arith, ap length whole, length-take packet.body.size packet.body.words) in
        grind (arith, nat_tests, ap length waits, as_many)

    -- a packet is taken where something waits
    holds_drawn : {next : Lanes} (packet : Packet) → Drawn after lane (Ok packet) next → (place : ℕ) × (place < length parcels) × (parcel_of packet ≡ at_place parcels place) × Holds lanes lane (remove parcels place) next
    holds_drawn packet told =
        let place = told.1.0 in (
          place,
          omega (arith, told.1.1, ap length waits),
          told.1.2 ∙ ap (λ ps. at_place ps place) waits,
          changed _ (told.1.3 ∙ ap (λ ps. set after lane (remove ps place)) waits),
        )

    draw_free : 0 < length parcels → take_refusal after lane longest_body ≡ None
    draw_free some = grind (arith, nat_tests, ap length waits, as_many)

  draw_none : {after : Lanes} → Holds lanes lane [] after → take_refusal after lane longest_body ≡ Some LaneEmpty
  draw_none h = let none = ap length (waits h) in grind (arith, nat_tests, as_many h)

  -- a take from an empty lane gives nothing and leaves it
  emptied : {after next : Lanes} (r : Result Packet Refusal) → Holds lanes lane [] after → Drawn after lane r next → (r ≡ Err LaneEmpty) × Holds lanes lane [] next
  emptied (Ok packet) h told = let refused = draw_none h in absurd (let z : ◌≡◌ {A = ℕ} 0 1 = cc (told.0, refused) in omega arith)
  emptied (Err e) h told =
      let refused = draw_none h in
      let same : e ≡ LaneEmpty = cc (told.0, refused) in
      (ap Err same, record { here = h.here; is = told.1 ∙ h.is })

  -- the only parcel comes out
  last_comes : {p : Parcel} {next : Lanes} (x : Packet) (place : ℕ) → place < 1 → parcel_of x ≡ at_place (p ∷ []) place → Holds lanes lane (remove (p ∷ []) place) next → (parcel_of x ≡ p) × Holds lanes lane [] next
  last_comes x zero below is h = (is, h)
  last_comes x (suc place) below is h = absurd (omega arith)

  -- both of two parcels come out, and then none
  both_come : {p q : Parcel} {l₂ l₃ l₄ l₅ : Lanes} (x y : Packet) (z : Result Packet Refusal) → Holds lanes lane (p ∷ q ∷ []) l₂ → Drawn l₂ lane (Ok x) l₃ → Drawn l₃ lane (Ok y) l₄ → Drawn l₄ lane z l₅ → Both p q (parcel_of x) (parcel_of y) × (z ≡ Err LaneEmpty) × Holds lanes lane [] l₅
  both_come {p} {q} {l₂} {l₃} {l₄} {l₅} x y z h₂ d₁ d₂ d₃ =
      let t = holds_drawn h₂ x d₁ in from t.0 t.1 t.2 t.3
    where
      then : {r : Parcel} → Holds lanes lane (r ∷ []) l₃ → (parcel_of y ≡ r) × (z ≡ Err LaneEmpty) × Holds lanes lane [] l₅
      then h₃ =
          let t = holds_drawn h₃ y d₂ in
          let one = last_comes y t.0 t.1 t.2 t.3 in
          let none = emptied z one.1 d₃ in
          (one.0, none.0, none.1)

      from : (place : ℕ) → place < 2 → parcel_of x ≡ at_place (p ∷ q ∷ []) place → Holds lanes lane (remove (p ∷ q ∷ []) place) l₃ → Both p q (parcel_of x) (parcel_of y) × (z ≡ Err LaneEmpty) × Holds lanes lane [] l₅
      from zero below is h₃ = let rest = then h₃ in (inl (is, rest.0), rest.1, rest.2)
      from (suc zero) below is h₃ = let rest = then h₃ in (inr (is, rest.0), rest.1, rest.2)
      from (suc (suc place)) below is h₃ = absurd (omega arith)

-- two packets are posted to a lane that is there and empty
pub filled : (lanes : Lanes) (lane : ℕ) (l₁ l₂ : Lanes) (first second : Packet) (body other : List ℕ) (r : Result (Unit {0}) Refusal) → loopback_refusal lanes lane ≡ None → body ≡ (parcel_of first).body → l₁ ≡ posted lanes lane (record { head = first.head; body = body }) → other ≡ (parcel_of second).body → Posted l₁ lane second.head other r l₂ → Filled lanes lane (parcel_of first) (parcel_of second) r l₂
filled lanes lane l₁ l₂ first second body other (Ok _) free whole sent whole' told =
    let one = holds_sent (holds_none free) first body whole sent in
    (free, (holds_sent one second other whole' told.1).is)
filled lanes lane l₁ l₂ first second body other (Err e) free whole sent whole' told =
    let one : Holds lanes lane (parcel_of first ∷ []) l₁ = holds_sent (holds_none free) first body whole sent in
    absurd (not_both (send_free one second other whole' (omega arith)) told.0)

-- what comes out of a lane with two parcels: neither of two takes is refused, and then nothing is left
module _ (lanes : Lanes) (lane : ℕ) (p q : Parcel) (l₂ : Lanes) (free : loopback_refusal lanes lane ≡ None) (both : l₂ ≡ set lanes lane (p ∷ q ∷ [])) where
  two : Holds lanes lane (p ∷ q ∷ []) l₂
  two = record { here = (holds_none free).here; is = both }

  pub first_free : take_refusal l₂ lane longest_body ≡ None
  first_free = draw_free two (omega arith)

  pub second_free : (l₃ : Lanes) (x : Packet) → Drawn l₂ lane (Ok x) l₃ → take_refusal l₃ lane longest_body ≡ None
  second_free l₃ x told =
      let t = holds_drawn two x told in
      draw_free t.3 (omega (arith, length-remove (p ∷ q ∷ []) t.0 t.1))

  pub emptied_again : (l₃ l₄ l₅ : Lanes) (x y : Packet) (z : Result Packet Refusal) → Drawn l₂ lane (Ok x) l₃ → Drawn l₃ lane (Ok y) l₄ → Drawn l₄ lane z l₅ → Both p q (parcel_of x) (parcel_of y) × (z ≡ Err LaneEmpty) × (l₅ ≡ lanes)
  emptied_again l₃ l₄ l₅ x y z d₁ d₂ d₃ =
      let back = both_come x y z two d₁ d₂ d₃ in
      (back.0, back.1, back.2.is ∙ sym (holds_none free).is)
