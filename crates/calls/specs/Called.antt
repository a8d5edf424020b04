-- Calls as values: what each answers and leaves by the rules, and the runs that lists of them make. Assumes nothing.
use Rattle.std.specs.Prelude.{◌≡◌, ℕ, List, [], ◌∷◌, length, Result}
use Rattle.words.specs.declared.event.Event.{Event}
use Rattle.words.specs.declared.refusal.Refusal.{Refusal}
use Rattle.arrow.specs.World.{World}
use Rattle.arrow.specs.Rules.{open_call, request_call, write_call, release_call}
use Rattle.arrow.specs.Clauses.{Clauses}
use Rattle.arrow.specs.Runs.{Entry, Run, Call, opens, requests, delivers, delivers_oldest, writes, releases}
use Rattle.group.specs.Parts.{Delivered, DeliveredOldest}
use Rattle.calls.specs.declared.call.Call.{Call as CallValue}
use Rattle.calls.specs.declared.call.Call.TheVariants.{Open, Request, Deliver, Write, Release}

-- a call that is lent spare words; where it delivers, the carrier chooses the parcel
abbrev pub call_of : CallValue → List ℕ → Call
call_of (Open parents) spare = opens parents.now
call_of (Request panel) spare = requests panel
call_of (Deliver lane) spare = delivers lane spare
call_of (Write panel entry) spare = writes panel entry
call_of (Release panel) spare = releases panel

-- the same where it delivers the oldest parcel
abbrev pub oldest_call_of : CallValue → List ℕ → Call
oldest_call_of (Open parents) spare = opens parents.now
oldest_call_of (Request panel) spare = requests panel
oldest_call_of (Deliver lane) spare = delivers_oldest lane spare
oldest_call_of (Write panel entry) spare = writes panel entry
oldest_call_of (Release panel) spare = releases panel

-- what a call answers, and the world and the spare words that it leaves; only a delivery changes spare words
abbrev pub Performed : World → CallValue → List ℕ → Result Event Refusal → World → List ℕ → Type 0
Performed w (Open parents) spare r w' spare' = (open_call w parents.now ≡ (r, w')) × (spare' ≡ spare)
Performed w (Request panel) spare r w' spare' = (request_call w panel ≡ (r, w')) × (spare' ≡ spare)
Performed w (Deliver lane) spare r w' spare' = Delivered w lane spare (r, w') spare'
Performed w (Write panel entry) spare r w' spare' = (write_call w panel entry ≡ (r, w')) × (spare' ≡ spare)
Performed w (Release panel) spare r w' spare' = (release_call w panel ≡ (r, w')) × (spare' ≡ spare)

-- the same where a delivery takes the oldest parcel
abbrev pub PerformedOldest : World → CallValue → List ℕ → Result Event Refusal → World → List ℕ → Type 0
PerformedOldest w (Open parents) spare r w' spare' = (open_call w parents.now ≡ (r, w')) × (spare' ≡ spare)
PerformedOldest w (Request panel) spare r w' spare' = (request_call w panel ≡ (r, w')) × (spare' ≡ spare)
PerformedOldest w (Deliver lane) spare r w' spare' = DeliveredOldest w lane spare (r, w') spare'
PerformedOldest w (Write panel entry) spare r w' spare' = (write_call w panel entry ≡ (r, w')) × (spare' ≡ spare)
PerformedOldest w (Release panel) spare r w' spare' = (release_call w panel ≡ (r, w')) × (spare' ≡ spare)

-- the history is of these calls, in this order, each lent so many spare words
abbrev pub MadeOf : ℕ → List CallValue → List Entry → Type 0
MadeOf size [] [] = Unit {0}
MadeOf size [] (entry ∷ history) = ⊥
MadeOf size (call ∷ calls) [] = ⊥
MadeOf size (call ∷ calls) (entry ∷ history) =
    ((spare : List ℕ) × (length spare ≡ size) × (entry.call ≡ call_of call spare)) × MadeOf size calls history

-- a run of these calls leads to the world, and the three clauses hold of it
pub record ReachedBy (size : ℕ) (calls : List CallValue) (w : World) : Type 0 where
  pub history : List Entry
  pub made : MadeOf size calls history
  pub run : Run history w
  pub clauses : Clauses history w
