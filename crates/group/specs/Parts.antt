-- What the parts that the calls are made of answer and leave, over the world of the group. Assumes nothing.
use Rattle.std.specs.Prelude.{◌≡◌, ℕ, true, false, List, [], length, map, take, Some, None, Ok, Err, Result, nat_le}
use Rattle.std.specs.Borrow.{Bor}
use Rattle.carrier.specs.Parcels.{Lanes}
use Rattle.group.specs.declared.memory.Panels.{Panels}
use Rattle.group.specs.declared.delivering.Ends.{Ends}
use Rattle.tree.specs.Answers.{parents}
use Rattle.words.specs.declared.message.Message.{Message}
use Rattle.words.specs.declared.refusal.Refusal.{Refusal}
use Rattle.words.specs.declared.refusal.Refusal.TheVariants.{NotOpen}
use Rattle.words.specs.declared.event.Event.TheVariants.{Granted, Passed, Landed}
use Rattle.words.specs.declared.message.Message.TheVariants.{Find, Book}
use Rattle.tree.specs.Answers.{first_step_answer}
use Rattle.arrow.specs.declared.state.State.TheVariants.{Idle}
use Rattle.carrier.specs.declared.traits.Received.{Received}
use Rattle.tree.specs.Tree.{lane_count, lane_source, lane_target}
use Rattle.words.specs.Messages.{message_of}
use Rattle.arrow.specs.Runs.{WaitsAt}
use Rattle.panel.specs.declared.action.Action.{Action}
use Rattle.panel.specs.declared.action.Action.TheVariants.{Pass, Keep, HandOver, Hold, MoveOn}
use Rattle.arrow.specs.World.{Panel, World, is_open, panel_at}
use Rattle.arrow.specs.Rules.{Outcome, refuse, on_panel, on_holder, send, with_lanes, with_panel, with_counts, with_part, count_book, holds, count_find, count_grant, moves_on, meets, deliver_call, deliver_refusal, spare_after, read_answer}
use Rattle.panel.specs.declared.record.Panel.{Panel as PanelRecord}
use Rattle.panel.specs.Steps.{panel_of}

-- what an open group has, or NotOpen
abbrev pub OpenTold : World → Result (Bor Panels) Refusal → Type 0
OpenTold w (Ok panels) = (is_open w ≡ true) × (parents panels.now.tree ≡ w.tree) × (map panel_of (take (length (parents panels.now.tree)) panels.now.each) ≡ w.panels)
OpenTold w (Err e) = (is_open w ≡ false) × (e ≡ NotOpen)

-- a panel, or why every call on it and every read of it is refused
abbrev pub PanelTold : World → ℕ → Result PanelRecord Refusal → Type 0
PanelTold w v (Ok p) = (is_open w ≡ true) × (nat_le (length w.tree) v ≡ false) × (panel_of p ≡ panel_at w v)
PanelTold w v (Err e) = ((rest : Outcome) → on_panel w v rest ≡ refuse w e) × ((space : List ℕ) → read_answer w v space ≡ Err e)

-- a panel that holds, or why a call on it is refused
abbrev pub HolderTold : World → ℕ → Result PanelRecord Refusal → Type 0
HolderTold w v (Ok p) =
    (is_open w ≡ true) × (nat_le (length w.tree) v ≡ false) × (holds (panel_at w v).state ≡ true) × (panel_of p ≡ panel_at w v)
HolderTold w v (Err e) = (rest : Outcome) → on_holder w v rest ≡ refuse w e

-- a message with a body goes out from u to its neighbour x
abbrev pub SentOut : World → ℕ → ℕ → Message → List ℕ → Result (Unit {0}) Refusal → World → Type 0
SentOut w u x message body (Ok _) w' = (lanes : Lanes) × (send w u x message body ≡ Ok lanes) × (w' ≡ with_lanes w lanes)
SentOut w u x message body (Err e) w' = (send w u x message body ≡ Err e) × (w' ≡ w)

-- the book goes from u to a with a row, by the first step, and u is then as given
abbrev pub handed : World → ℕ → ℕ → List ℕ → Panel → Result World Refusal
handed w u a row after =
    elim (first_step_answer w.tree u a) [
      | Ok y ↦ elim (send w u y (Book a) row) [
        | Ok lanes ↦ Ok (with_counts (with_panel (with_lanes w lanes) u after) (count_book w.counts))
        | Err e ↦ Err e
      ]
      | Err e ↦ Err e
    ]

-- as that, or refused with nothing changed
abbrev pub Handed : World → ℕ → ℕ → List ℕ → Panel → Result (Unit {0}) Refusal → World → Type 0
Handed w u a row after (Ok _) w' = handed w u a row after ≡ Ok w'
Handed w u a row after (Err e) w' = (handed w u a row after ≡ Err e) × (w' ≡ w)

-- the ends of a lane, or why every delivery on it is refused
abbrev pub EndsTold : World → ℕ → Result Ends Refusal → Type 0
EndsTold w lane (Ok ends) =
    (is_open w ≡ true) × (nat_le (lane_count w.tree) lane ≡ false) × (ends.from ≡ lane_source w.tree lane) × (ends.at ≡ lane_target w.tree lane)
EndsTold w lane (Err e) = (size : ℕ) → deliver_refusal w lane size ≡ Some e

-- a parcel that was taken arrives: its word is read, and the panel at the lane's end meets it
abbrev pub Arrived : World → ℕ → ℕ → Received → List ℕ → Outcome → Type 0
Arrived w from at got spare outcome =
    with_part (message_of got.head) w (meets w from at (take got.size spare)) ≡ outcome

-- a delivery on a lane: the carrier chose a parcel that waits there, if any does, and the rest is by the rules
pub record Delivered (w : World) (lane : ℕ) (spare : List ℕ) (outcome : Outcome) (spare' : List ℕ) : Type 0 where
  pub place : ℕ
  pub waits : WaitsAt w lane place
  pub by_rule : deliver_call w lane (length spare) place ≡ outcome
  pub spare_is : spare' ≡ spare_after w lane spare place

-- the same of the oldest parcel of the lane
abbrev pub DeliveredOldest : World → ℕ → List ℕ → Outcome → List ℕ → Type 0
DeliveredOldest w lane spare outcome spare' =
    (deliver_call w lane (length spare) 0 ≡ outcome) × (spare' ≡ spare_after w lane spare 0)

-- an idle panel with a row
abbrev pub idle_with : List ℕ → ℕ → Panel
idle_with row parent = record { arrow = parent; state = Idle; follower = None; row = row }

-- a find word for a goes from u to x, and u is then as given
abbrev pub passed_on : World → ℕ → ℕ → ℕ → Panel → Outcome
passed_on w u x a after =
    with_part (send w u x (Find a) []) w (λ lanes. (
      Ok (Passed a u x),
      with_counts (with_panel (with_lanes w lanes) u after) (count_find w.counts),
    ))

-- what is left to do after panel u, whose row was as given, met a message from a neighbour: u is then as given
abbrev pub by_action : World → ℕ → ℕ → List ℕ → List ℕ → Action → Panel → Outcome
by_action w from u row body (Pass a x) after = passed_on w u x a after
by_action w from u row body (Keep a) after = (Ok (Landed a u 0), with_panel w u after)
by_action w from u row body (HandOver a) after = with_part (handed w u a row after) w (λ w'. (Ok (Landed a u 1), w'))
by_action w from u row body Hold after = (Ok (Granted u from), with_counts (with_panel w u after) (count_grant w.counts))
by_action w from u row body (MoveOn a) after = moves_on w u a body
