-- The rules of the calls, as functions on worlds: what a call answers, and the world that it leaves. A refusal is the first that
-- applies. Assumes nothing. Every rule is total: where it names a refusal that no run meets (a cable that is not there, a full lane, a
-- word that does not read, a counter at its end), the law on runs says that it does not come up.
use Rattle.std.specs.Prelude.{ℕ, ◌+◌, ◌-◌, ◌^◌, min, Bool, true, false, cond, not, List, [], ◌∷◌, map, length, replicate, Some, None, Ok, Err, Option, Result, ◌==◌, nat_le, nat_lt, slice_set}
use Rattle.book.specs.Kinds.{applied, placed}
use Rattle.carrier.specs.Parcels.{Parcel, Lanes, waiting, at_place, any_waits, post_refusal, take_refusal, posted, taken, laid}
use Rattle.tree.specs.Answers.{first_step_answer, lane_answer}
use Rattle.tree.specs.Tree.{lawful_tree, parent, lane_count, lane_source, lane_target}
use Rattle.words.specs.Messages.{message_of, message_word}
use Rattle.words.specs.declared.event.Event.{Event}
use Rattle.words.specs.declared.event.Event.TheVariants.{Opened, Asked, Granted, Passed, Landed, Moved, Written, Rests, Sent}
use Rattle.words.specs.declared.message.Message.{Message}
use Rattle.words.specs.declared.message.Message.TheVariants.{Find, Book}
use Rattle.words.specs.declared.refusal.Refusal.{Refusal}
use Rattle.words.specs.declared.refusal.Refusal.TheVariants.{NotOpen, AlreadyOpen, UnlawfulTree, TooFewLanes, ParcelWaiting, NoSuchPanel, Engaged, RequestLimit, NoSuchLane, NotHolding, NoBook}
use Rattle.arrow.specs.declared.counts.Counts.{Counts}
use Rattle.arrow.specs.declared.state.State.{State}
use Rattle.arrow.specs.declared.state.State.TheVariants.{Idle, Waiting, Holding, Resting}
use Rattle.arrow.specs.World.{Panel, World, is_open, panel_at}

-- what a call answers, and the world that it leaves
abbrev pub Outcome : Type 0
Outcome = Result Event Refusal × World

-- a refusal leaves the world as it is
abbrev pub refuse : World → Refusal → Outcome
refuse w e = (Err e, w)

-- refused where the test holds, else as follows
abbrev pub unless : Bool → Refusal → World → Outcome → Outcome
unless test e w rest = cond test (refuse w e) rest

-- on with a part's answer, or refused as the part is
abbrev pub with_part : {X : Type 0} → Result X Refusal → World → (X → Outcome) → Outcome
with_part (Ok x) w rest = rest x
with_part (Err e) w rest = refuse w e

-- the most that a counter holds
abbrev pub counter_end : ℕ
counter_end = 2 ^ 32 - 1

-- one more counted
abbrev pub more : ℕ → ℕ
more n = min (n + 1) counter_end

-- the world with panel v as given, the counts as given, and the lanes as given
abbrev pub with_panel : World → ℕ → Panel → World
with_panel w v p = record { kind = w.kind; tree = w.tree; panels = slice_set w.panels v p; counts = w.counts; lanes = w.lanes }

abbrev pub with_counts : World → Counts → World
with_counts w c = record { kind = w.kind; tree = w.tree; panels = w.panels; counts = c; lanes = w.lanes }

abbrev pub with_lanes : World → Lanes → World
with_lanes w lanes = record { kind = w.kind; tree = w.tree; panels = w.panels; counts = w.counts; lanes = lanes }

-- parts of a panel that change
abbrev pub turned : ℕ → Panel → Panel
turned arrow p = record { arrow = arrow; state = p.state; follower = p.follower; row = p.row }

abbrev pub about : State → Panel → Panel
about state p = record { arrow = p.arrow; state = state; follower = p.follower; row = p.row }

abbrev pub followed : Option ℕ → Panel → Panel
followed follower p = record { arrow = p.arrow; state = p.state; follower = follower; row = p.row }

abbrev pub with_row : List ℕ → Panel → Panel
with_row row p = record { arrow = p.arrow; state = p.state; follower = p.follower; row = row }

-- a panel without the book: its row is zeros
abbrev pub emptied : Panel → Panel
emptied p = with_row (replicate (length p.row) 0) p

-- counts that go up
abbrev pub count_request : Counts → Counts
count_request c = record { requests = more c.requests; finds = c.finds; books = c.books; grants = c.grants; releases = c.releases }

abbrev pub count_find : Counts → Counts
count_find c = record { requests = c.requests; finds = more c.finds; books = c.books; grants = c.grants; releases = c.releases }

abbrev pub count_book : Counts → Counts
count_book c = record { requests = c.requests; finds = c.finds; books = more c.books; grants = c.grants; releases = c.releases }

abbrev pub count_grant : Counts → Counts
count_grant c = record { requests = c.requests; finds = c.finds; books = c.books; grants = more c.grants; releases = c.releases }

abbrev pub count_release : Counts → Counts
count_release c = record { requests = c.requests; finds = c.finds; books = c.books; grants = c.grants; releases = more c.releases }

-- the lanes after a parcel was posted on a lane
abbrev pub post_on : Lanes → ℕ → Parcel → Option Refusal → Result Lanes Refusal
post_on lanes lane parcel None = Ok (posted lanes lane parcel)
post_on lanes lane parcel (Some e) = Err e

-- the same for a word on a lane that may not be there
abbrev pub post_word : Lanes → List ℕ → Result ℕ Refusal → Result ℕ Refusal → Result Lanes Refusal
post_word lanes body (Ok lane) (Ok word) =
    post_on lanes lane (record { head = word; body = body }) (post_refusal lanes lane (length body))
post_word lanes body (Ok lane) (Err e) = Err e
post_word lanes body (Err e) word = Err e

-- the lanes after a message with a body went out on the lane from u to its neighbour x
abbrev pub send : World → ℕ → ℕ → Message → List ℕ → Result Lanes Refusal
send w u x message body = post_word w.lanes body (lane_answer w.tree u x) (message_word message)

-- OPEN. Panel 0 rests with the opening row; each other panel is idle, its arrow points to its parent, and its row is zeros.
abbrev pub first_panel : World → Panel
first_panel w = record { arrow = 0; state = Resting; follower = None; row = w.kind.opening }

abbrev pub idle_panel : World → ℕ → Panel
idle_panel w parent = record { arrow = parent; state = Idle; follower = None; row = replicate w.kind.width 0 }

abbrev pub opening_panels : World → List ℕ → List Panel
opening_panels w [] = []
opening_panels w (root ∷ parents) = first_panel w ∷ map (idle_panel w) parents

abbrev pub opened_world : World → List ℕ → World
opened_world w ps = record { kind = w.kind; tree = ps; panels = opening_panels w ps; counts = w.counts; lanes = w.lanes }

abbrev pub open_call : World → List ℕ → Outcome
open_call w ps =
    unless (is_open w) AlreadyOpen w
    (unless (not (lawful_tree ps)) UnlawfulTree w
    (unless (nat_lt (length w.lanes) (lane_count ps)) TooFewLanes w
    (unless (any_waits w.lanes) ParcelWaiting w
    (Ok (Opened (length ps - 1)), opened_world w ps))))

-- a call on panel v: refused where the group is not open, or has no such panel
abbrev pub on_panel : World → ℕ → Outcome → Outcome
on_panel w v rest = unless (not (is_open w)) NotOpen w (unless (nat_le (length w.tree) v) NoSuchPanel w rest)

-- REQUEST. A panel that waits or holds has asked already.
abbrev pub has_asked : State → Bool
has_asked Idle = false
has_asked Waiting = true
has_asked Holding = true
has_asked Resting = false

-- how many requests a group accepts
abbrev pub request_limit : ℕ
request_limit = 1000000

-- a panel that rests holds
abbrev pub takes_up : World → ℕ → Outcome
takes_up w v = (
  Ok (Granted v v),
  with_counts (with_panel w v (about Holding (panel_at w v))) (count_grant (count_request w.counts)),
)

-- an idle panel sends its find word along its arrow, which then points to itself, and waits
abbrev pub asks : World → ℕ → Outcome
asks w v =
    with_part (send w v (panel_at w v).arrow (Find v) []) w (λ lanes. (
      Ok (Asked v (panel_at w v).arrow),
      with_counts (with_panel (with_lanes w lanes) v (turned v (about Waiting (panel_at w v)))) (count_find (count_request w.counts)),
    ))

abbrev pub by_rest : State → Outcome → Outcome → Outcome
by_rest Idle other rest = other
by_rest Waiting other rest = other
by_rest Holding other rest = other
by_rest Resting other rest = rest

abbrev pub request_call : World → ℕ → Outcome
request_call w v =
    on_panel w v
    (unless (has_asked (panel_at w v).state) Engaged w
    (unless (nat_le request_limit w.counts.requests) RequestLimit w
    (by_rest (panel_at w v).state (asks w v) (takes_up w v))))

-- The book goes from u to panel a, with u's row, by the first step; u, idle now, keeps no word of it. `arrow` is u's arrow afterwards.
abbrev pub hand_over : World → ℕ → ℕ → ℕ → Event → (Counts → Counts) → Outcome
hand_over w u a arrow event counted =
    with_part (first_step_answer w.tree u a) w (λ y.
    with_part (send w u y (Book a) (panel_at w u).row) w (λ lanes. (
      Ok event,
      with_counts (with_panel (with_lanes w lanes) u (turned arrow (followed None (about Idle (emptied (panel_at w u))))))
          (counted (count_book w.counts)),
    )))

-- DELIVER. A find word for a comes to u from w. The arrow of u decides where it goes on, and turns to where it came from.
abbrev pub passes_on : World → ℕ → ℕ → ℕ → Outcome
passes_on w from u a =
    with_part (send w u (panel_at w u).arrow (Find a) []) w (λ lanes. (
      Ok (Passed a u (panel_at w u).arrow),
      with_counts (with_panel (with_lanes w lanes) u (turned from (panel_at w u))) (count_find w.counts),
    ))

-- it ends where the arrow points to u itself: the book leaves at once where it rests, else a is the follower
abbrev pub lands : World → ℕ → ℕ → ℕ → Outcome
lands w from u a =
    by_rest (panel_at w u).state
    (Ok (Landed a u 0), with_panel w u (turned from (followed (Some a) (panel_at w u))))
    (hand_over w u a from (Landed a u 1) (λ c. c))

-- a book word for a comes to u from w: it goes on by the first step, or a has it and holds
abbrev pub moves_on : World → ℕ → ℕ → List ℕ → Outcome
moves_on w u a body =
    with_part (first_step_answer w.tree u a) w (λ y.
    with_part (send w u y (Book a) body) w (λ lanes.
    (Ok (Moved a u y), with_counts (with_lanes w lanes) (count_book w.counts))))

abbrev pub gets_book : World → ℕ → ℕ → List ℕ → Outcome
gets_book w from u body = (
  Ok (Granted u from),
  with_counts (with_panel w u (about Holding (with_row body (panel_at w u)))) (count_grant w.counts),
)

-- what u does with the word that came, by its arrow and its state
abbrev pub meets : World → ℕ → ℕ → List ℕ → Message → Outcome
meets w from u body (Find a) = cond ((panel_at w u).arrow == u) (lands w from u a) (passes_on w from u a)
meets w from u body (Book a) = cond (u == a) (gets_book w from u body) (moves_on w u a body)

-- why a delivery on a lane is refused, with so many spare words
abbrev pub deliver_refusal : World → ℕ → ℕ → Option Refusal
deliver_refusal w lane size =
    cond (not (is_open w)) (Some NotOpen)
    (cond (nat_le (lane_count w.tree) lane) (Some NoSuchLane) (take_refusal w.lanes lane size))

-- the parcel at a place of a lane
abbrev pub parcel_at : World → ℕ → ℕ → Parcel
parcel_at w lane place = at_place (waiting w.lanes lane) place

-- the parcel is taken from its lane, and the panel at the lane's end meets it
abbrev pub delivers : World → ℕ → ℕ → Outcome
delivers w lane place =
    with_part (message_of (parcel_at w lane place).head) (with_lanes w (taken w.lanes lane place))
    (meets (with_lanes w (taken w.lanes lane place)) (lane_source w.tree lane) (lane_target w.tree lane) (parcel_at w lane place).body)

abbrev pub by_refusal : {X : Type 0} → Option Refusal → (Refusal → X) → X → X
by_refusal None refused rest = rest
by_refusal (Some e) refused rest = refused e

-- a delivery of the parcel at a place of the lane, which the carrier chose
abbrev pub deliver_call : World → ℕ → ℕ → ℕ → Outcome
deliver_call w lane size place = by_refusal (deliver_refusal w lane size) (refuse w) (delivers w lane place)

-- the spare words after it: the body in the first of them
abbrev pub spare_after : World → ℕ → List ℕ → ℕ → List ℕ
spare_after w lane spare place =
    by_refusal (deliver_refusal w lane (length spare)) (λ _. spare) (laid (parcel_at w lane place).body spare)

-- a call on a panel that holds
abbrev pub holds : State → Bool
holds Idle = false
holds Waiting = false
holds Holding = true
holds Resting = false

abbrev pub on_holder : World → ℕ → Outcome → Outcome
on_holder w v rest = on_panel w v (unless (not (holds (panel_at w v).state)) NotHolding w rest)

-- RELEASE. Without a follower the panel rests; else the book goes to the follower.
abbrev pub releases_to : World → ℕ → Option ℕ → Outcome
releases_to w v None =
    (Ok (Rests v), with_counts (with_panel w v (about Resting (panel_at w v))) (count_release w.counts))
releases_to w v (Some f) = hand_over w v f (panel_at w v).arrow (Sent v f) count_release

abbrev pub release_call : World → ℕ → Outcome
release_call w v = on_holder w v (releases_to w v (panel_at w v).follower)

-- WRITE. The row becomes what the kind makes of it.
abbrev pub write_call : World → ℕ → ℕ → Outcome
write_call w v entry =
    on_holder w v
    (with_part (applied w.kind (panel_at w v).row entry) w (λ row.
    (Ok (Written v entry), with_panel w v (with_row row (panel_at w v)))))

-- READ. A panel has the book when it holds or rests; its row is copied into the first words of a space.
abbrev pub has_book : State → Bool
has_book Idle = false
has_book Waiting = false
has_book Holding = true
has_book Resting = true

abbrev pub read_answer : World → ℕ → List ℕ → Result (List ℕ) Refusal
read_answer w v space =
    cond (not (is_open w)) (Err NotOpen)
    (cond (nat_le (length w.tree) v) (Err NoSuchPanel)
    (cond (not (has_book (panel_at w v).state)) (Err NoBook)
    (placed (length (panel_at w v).row) (panel_at w v).row space)))
