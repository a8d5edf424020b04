-- What holds after every run. Assumes nothing: it is proved, and named by a contract.
use Rattle.std.specs.Prelude.{◌≡◌, ℕ, ◌+◌, ◌<◌, true, List, [], ◌∷◌, ◌++◌, length, Ok, Err, Result, ◌≢◌}
use Rattle.book.specs.Kinds.{Book}
use Rattle.carrier.specs.Parcels.{waiting}
use Rattle.tree.specs.Tree.{distance, lane_count}
use Rattle.words.specs.Messages.{message_of}
use Rattle.words.specs.declared.event.Event.{Event}
use Rattle.words.specs.declared.event.Event.TheVariants.{Opened, Asked, Granted, Passed, Landed, Moved, Written, Rests, Sent, Refused}
use Rattle.words.specs.declared.message.Message.TheVariants.{Find, Book as BookWord}
use Rattle.words.specs.declared.refusal.Refusal.{Refusal}
use Rattle.words.specs.declared.rule_number.RuleNumber.{RuleNumber}
use Rattle.arrow.specs.declared.state.State.TheVariants.{Holding}
use Rattle.arrow.specs.World.{World, is_open, panel_at}
use Rattle.arrow.specs.Rules.{has_book, parcel_at}
use Rattle.arrow.specs.Runs.{Call, Entry, Run}

-- both ways
abbrev pub ExactlyWhen : Type 0 → Type 0 → Type 0
ExactlyWhen A B = (A → B) × (B → A)

-- a parcel waits at a place of a lane of the group
abbrev pub Waits : World → ℕ → ℕ → Type 0
Waits w lane place = (lane < lane_count w.tree) × (place < length (waiting w.lanes lane))

-- no find word waits
abbrev pub NoFindWaits : World → Type 0
NoFindWaits w =
    (lane place asker : ℕ) → Waits w lane place → message_of (parcel_at w lane place).head ≢ Ok (Find asker)

-- no parcel waits
abbrev pub NoParcelWaits : World → Type 0
NoParcelWaits w = (lane place : ℕ) → Waits w lane place → ⊥

-- no panel holds
abbrev pub NoPanelHolds : World → Type 0
NoPanelHolds w = (v : ℕ) → v < length w.tree → (panel_at w v).state ≢ Holding

-- the distance of an answer: that of the asker and the panel where its find landed, for a landed request; else none
abbrev pub landed_distance : List ℕ → Result Event Refusal → ℕ
landed_distance ps (Ok (Opened highest)) = 0
landed_distance ps (Ok (Asked panel to)) = 0
landed_distance ps (Ok (Granted panel from)) = 0
landed_distance ps (Ok (Passed asker at to)) = 0
landed_distance ps (Ok (Landed asker at book)) = distance ps asker at
landed_distance ps (Ok (Moved addressee at to)) = 0
landed_distance ps (Ok (Written panel entry)) = 0
landed_distance ps (Ok (Rests panel)) = 0
landed_distance ps (Ok (Sent panel to)) = 0
landed_distance ps (Ok (Refused number)) = 0
landed_distance ps (Err e) = 0

-- the distances of all landed requests of a history, added up
abbrev pub landed_distances : List ℕ → List Entry → ℕ
landed_distances ps [] = 0
landed_distances ps (entry ∷ more) = landed_distance ps entry.answer + landed_distances ps more

-- the entry that an answer says was written, before others
abbrev pub written_before : Result Event Refusal → List ℕ → List ℕ
written_before (Ok (Opened highest)) more = more
written_before (Ok (Asked panel to)) more = more
written_before (Ok (Granted panel from)) more = more
written_before (Ok (Passed asker at to)) more = more
written_before (Ok (Landed asker at book)) more = more
written_before (Ok (Moved addressee at to)) more = more
written_before (Ok (Written panel entry)) more = entry ∷ more
written_before (Ok (Rests panel)) more = more
written_before (Ok (Sent panel to)) more = more
written_before (Ok (Refused number)) more = more
written_before (Err e) more = more

-- the entries of all accepted writes of a history, in order
abbrev pub accepted_writes : List Entry → List ℕ
accepted_writes [] = []
accepted_writes (entry ∷ more) = written_before entry.answer (accepted_writes more)

-- the rows that a kind's rule makes of a row and entries, one after the other: each entry is accepted, and the last row is as given
abbrev pub MakesOf : Book → Result (List ℕ) RuleNumber → List ℕ → List ℕ → Type 0
MakesOf kind (Err n) entries page = ⊥
MakesOf kind (Ok row) [] page = row ≡ page
MakesOf kind (Ok row) (entry ∷ more) page = MakesOf kind (kind.rule row entry) more page

-- where the book may be: at a panel, or in a parcel
pub data Spot : Type 0 where
  at_panel : ℕ → Spot
  in_parcel : (lane place : ℕ) → Spot

-- a panel has the book when it holds or rests, a parcel of the group when its head is a book word
abbrev pub HasBook : World → Spot → Type 0
HasBook w (at_panel v) = (v < length w.tree) × (has_book (panel_at w v).state ≡ true)
HasBook w (in_parcel lane place) =
    Waits w lane place × ((addressee : ℕ) × (message_of (parcel_at w lane place).head ≡ Ok (BookWord addressee)))

-- the page of what has the book: the panel's row, or the parcel's body
abbrev pub page_at : World → Spot → List ℕ
page_at w (at_panel v) = (panel_at w v).row
page_at w (in_parcel lane place) = (parcel_at w lane place).body

-- exactly one of all panels and waiting parcels has the book, and its page is the opening row with every accepted write made in it, in
-- order and by the kind's rule
pub record OneBook (history : List Entry) (w : World) : Type 0 where
  pub spot : Spot
  pub has : HasBook w spot
  pub only : (other : Spot) → HasBook w other → other ≡ spot
  pub page : MakesOf w.kind (Ok w.kind.opening) (accepted_writes history) (page_at w spot)

-- the three clauses
pub record Clauses (history : List Entry) (w : World) : Type 0 where
  -- the find words sent are the distances of all landed requests added up, exactly when no find word waits
  pub steps : ExactlyWhen (w.counts.finds ≡ landed_distances w.tree history) (NoFindWaits w)
  -- as many requests as releases were accepted, exactly when no parcel waits and no panel holds
  pub rest : ExactlyWhen (w.counts.requests ≡ w.counts.releases) (NoParcelWaits w × NoPanelHolds w)
  -- once open, there is one book
  pub book : is_open w ≡ true → OneBook history w

-- the law over every run
abbrev pub LawOverRuns : Type 0
LawOverRuns = (history : List Entry) (w : World) → Run history w → Clauses history w

-- a call, so answered, goes on from every run that leads to the first world: the longer run leads to the second, and the clauses hold of it
abbrev pub GoesOn : World → Call → Result Event Refusal → World → Type 0
GoesOn w call answer w' =
    (history : List Entry) → Run history w
    → Run (history ++ record { call = call; answer = answer } ∷ []) w' × Clauses (history ++ record { call = call; answer = answer } ∷ []) w'
