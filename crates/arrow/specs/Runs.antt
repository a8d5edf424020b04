-- Runs: lists of calls with their answers, from a new group on. Assumes nothing.
use Rattle.std.specs.Prelude.{◌≡◌, ℕ, ◌<◌, List, [], ◌∷◌, ◌++◌, length, Result}
use Rattle.book.specs.Kinds.{Book, Sound}
use Rattle.carrier.specs.Parcels.{Lanes, waiting}
use Rattle.words.specs.declared.event.Event.{Event}
use Rattle.words.specs.declared.refusal.Refusal.{Refusal}
use Rattle.arrow.specs.World.{World, new_world}
use Rattle.arrow.specs.Rules.{open_call, request_call, deliver_call, release_call, write_call}

-- a call, with any arguments; a delivery is lent any number of spare words, whatever they hold
pub data Call : Type 0 where
  opens : (parents : List ℕ) → Call
  requests : (panel : ℕ) → Call
  delivers : (lane : ℕ) (spare : List ℕ) → Call
  delivers_oldest : (lane : ℕ) (spare : List ℕ) → Call
  writes : (panel entry : ℕ) → Call
  releases : (panel : ℕ) → Call

-- what a call was, and what it answered: an event, or a refusal
pub record Entry : Type 0 where
  pub call : Call
  pub answer : Result Event Refusal

-- the carrier chose a parcel that waits in the lane, if any does
abbrev pub WaitsAt : World → ℕ → ℕ → Type 0
WaitsAt w lane place = 0 < length (waiting w.lanes lane) → place < length (waiting w.lanes lane)

-- the call, answered so, leads from the first world to the second; the carrier is free in which parcel it gives
abbrev pub CarriedOut : World → Call → Result Event Refusal → World → Type 0
CarriedOut w (opens parents) answer w' = open_call w parents ≡ (answer, w')
CarriedOut w (requests panel) answer w' = request_call w panel ≡ (answer, w')
CarriedOut w (delivers lane spare) answer w' =
    (place : ℕ) × WaitsAt w lane place × (deliver_call w lane (length spare) place ≡ (answer, w'))
CarriedOut w (delivers_oldest lane spare) answer w' = deliver_call w lane (length spare) 0 ≡ (answer, w')
CarriedOut w (writes panel entry) answer w' = write_call w panel entry ≡ (answer, w')
CarriedOut w (releases panel) answer w' = release_call w panel ≡ (answer, w')

-- a list of calls with their answers, oldest first, leads from a new group over any kind of book, and a carrier on which anything may
-- wait, to a world
pub data Run : List Entry → World → Type 0 where
  new : (kind : Book) → Sound kind → (lanes : Lanes) → Run [] (new_world kind lanes)
  then : {history : List Entry} {w : World} → Run history w → (call : Call) (answer : Result Event Refusal) (w' : World)
      → CarriedOut w call answer w' → Run (history ++ record { call = call; answer = answer } ∷ []) w'
