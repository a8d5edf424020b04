-- A worked run: two panels of four ask, the book goes to the one and then to the other. Assumes nothing: it is proved, and named by a
-- contract.
use Rattle.std.specs.Prelude.{◌≡◌, ℕ, List, [], ◌∷◌, length, replicate, None, Ok, Err, Result, ◌==◌}
use Rattle.book.specs.Kinds.{Book}
use Rattle.words.specs.declared.event.Event.{Event}
use Rattle.words.specs.declared.event.Event.TheVariants.{Opened, Asked, Granted, Passed, Landed, Moved, Written, Rests, Sent}
use Rattle.words.specs.declared.refusal.Refusal.{Refusal}
use Rattle.words.specs.declared.refusal.Refusal.TheVariants.{Engaged}
use Rattle.arrow.specs.declared.state.State.TheVariants.{Resting}
use Rattle.arrow.specs.World.{World, panel_at}
use Rattle.arrow.specs.Runs.{Call, opens, requests, delivers_oldest, writes, releases, Entry, Run}

-- a kind of one word, which an entry replaces
abbrev pub one_word : Book
one_word = record { width = 1; lawful = λ row. (length row == 1); opening = 1000 ∷ []; rule = λ row entry. Ok (entry ∷ []) }

-- the entry that is written
abbrev pub worked_entry : ℕ
worked_entry = 0x10100005

-- a delivery of the oldest parcel of a lane, with enough spare words
abbrev pub delivery : ℕ → Call
delivery lane = delivers_oldest lane (replicate 32 0)

-- a call and its answer
abbrev pub answered : Call → Result Event Refusal → Entry
answered call answer = record { call = call; answer = answer }

-- the calls of the worked script, and their answers: on the tree 0 0 1 1, panels 2 and 3 ask; the find of 2 ends at 3, which is served
-- first, writes, and sends the book on
abbrev pub worked_history : List Entry
worked_history =
    answered (opens (0 ∷ 0 ∷ 1 ∷ 1 ∷ [])) (Ok (Opened 3))
    ∷ answered (requests 2) (Ok (Asked 2 1))
    ∷ answered (requests 3) (Ok (Asked 3 1))
    ∷ answered (delivery 4) (Ok (Passed 3 1 0))
    ∷ answered (delivery 2) (Ok (Passed 2 1 3))
    ∷ answered (delivery 5) (Ok (Landed 2 3 0))
    ∷ answered (delivery 0) (Ok (Landed 3 0 1))
    ∷ answered (delivery 1) (Ok (Moved 3 1 3))
    ∷ answered (delivery 5) (Ok (Granted 3 1))
    ∷ answered (writes 3 worked_entry) (Ok (Written 3 worked_entry))
    ∷ answered (requests 3) (Err Engaged)
    ∷ answered (releases 3) (Ok (Sent 3 2))
    ∷ answered (delivery 4) (Ok (Moved 2 1 2))
    ∷ answered (delivery 3) (Ok (Granted 2 1))
    ∷ answered (releases 2) (Ok (Rests 2))
    ∷ []

-- the run leads to a world with two requests, four find words, four book words, two grants and two releases, where panel 2 rests with
-- what was written
abbrev pub WorkedRun : Type 0
WorkedRun =
    (w : World) × Run worked_history w
    × (w.counts ≡ record { requests = 2; finds = 4; books = 4; grants = 2; releases = 2 })
    × (panel_at w 2 ≡ record { arrow = 2; state = Resting; follower = None; row = worked_entry ∷ [] })
