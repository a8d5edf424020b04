-- A call that was performed is a call carried out. Assumes nothing.
use Rattle.std.proofs.Common.{ℕ, List, Result}
use Rattle.words.specs.declared.event.Event.{Event}
use Rattle.words.specs.declared.refusal.Refusal.{Refusal}
use Rattle.arrow.specs.World.{World}
use Rattle.arrow.specs.Runs.{CarriedOut}
use Rattle.calls.specs.Called.{call_of, oldest_call_of, Performed, PerformedOldest}
use Rattle.calls.specs.declared.call.Call.{Call}
use Rattle.calls.specs.declared.call.Call.TheVariants.{Open, Request, Deliver, Write, Release}

pub carried : (w : World) (call : Call) (spare : List ℕ) (r : Result Event Refusal) (w' : World) (spare' : List ℕ)
    → Performed w call spare r w' spare' → CarriedOut w (call_of call spare) r w'
carried w (Open parents) spare r w' spare' p = p.0
carried w (Request panel) spare r w' spare' p = p.0
carried w (Deliver lane) spare r w' spare' p = (p.place, p.waits, p.by_rule)
carried w (Write panel entry) spare r w' spare' p = p.0
carried w (Release panel) spare r w' spare' p = p.0

pub carried_oldest : (w : World) (call : Call) (spare : List ℕ) (r : Result Event Refusal) (w' : World) (spare' : List ℕ)
    → PerformedOldest w call spare r w' spare' → CarriedOut w (oldest_call_of call spare) r w'
carried_oldest w (Open parents) spare r w' spare' p = p.0
carried_oldest w (Request panel) spare r w' spare' p = p.0
carried_oldest w (Deliver lane) spare r w' spare' p = p.0
carried_oldest w (Write panel entry) spare r w' spare' p = p.0
carried_oldest w (Release panel) spare r w' spare' p = p.0
