-- What else holds in every world that a run leads to, so that the rules are the plain ones there. Assumes nothing: it is proved, and
-- named by a contract.
use Rattle.std.specs.Prelude.{◌≡◌, ℕ, ◌<◌, ◌≤◌, true, false, ◌⊎◌, List, [], ◌∷◌, length, replicate, None, Ok, Err, ◌≢◌}
use Rattle.tree.specs.Tree.{neighbours}
use Rattle.words.specs.Messages.{message_of}
use Rattle.words.specs.declared.message.Message.TheVariants.{Find, Book as BookWord}
use Rattle.words.specs.declared.refusal.Refusal.{Refusal}
use Rattle.words.specs.declared.refusal.Refusal.TheVariants.{NotOpen, AlreadyOpen, UnlawfulTree, TooFewLanes, ParcelWaiting, NoSuchPanel, Engaged, RequestLimit, NoSuchLane, LaneEmpty, NotHolding, SpaceTooShort, Rule}
use Rattle.words.specs.declared.rule_number.RuleNumber.{RuleNumber}
use Rattle.arrow.specs.declared.state.State.TheVariants.{Idle, Resting}
use Rattle.arrow.specs.World.{World, panel_at}
use Rattle.arrow.specs.Rules.{has_book, parcel_at}
use Rattle.arrow.specs.Runs.{Call, opens, requests, delivers, delivers_oldest, writes, releases, Entry, CarriedOut, Run}
use Rattle.arrow.specs.Clauses.{Waits}

-- the refusal is one of these
abbrev pub OneOf : Refusal → List Refusal → Type 0
OneOf e [] = ⊥
OneOf e (listed ∷ more) = (e ≡ listed) ⊎ OneOf e more

-- the refusals that a call has: for a write also the number that the kind's own rule gives
abbrev pub Listed : Call → Refusal → Type 0
Listed (opens parents) e = OneOf e (AlreadyOpen ∷ UnlawfulTree ∷ TooFewLanes ∷ ParcelWaiting ∷ [])
Listed (requests panel) e = OneOf e (NotOpen ∷ NoSuchPanel ∷ Engaged ∷ RequestLimit ∷ [])
Listed (delivers lane spare) e = OneOf e (NotOpen ∷ NoSuchLane ∷ SpaceTooShort ∷ LaneEmpty ∷ [])
Listed (delivers_oldest lane spare) e = OneOf e (NotOpen ∷ NoSuchLane ∷ SpaceTooShort ∷ LaneEmpty ∷ [])
Listed (writes panel entry) e =
    OneOf e (NotOpen ∷ NoSuchPanel ∷ NotHolding ∷ []) ⊎ ((n : RuleNumber) × (e ≡ Rule n))
Listed (releases panel) e = OneOf e (NotOpen ∷ NoSuchPanel ∷ NotHolding ∷ [])

-- after a run a call is refused only by what is listed for it, and then changes nothing: a post of the group never meets a full lane or
-- too long a body, every word that waits reads, every row that is written in is lawful
abbrev pub RefusalsAreListed : Type 0
RefusalsAreListed =
    (history : List Entry) (w : World) → Run history w → (call : Call) (e : Refusal) (w' : World)
    → CarriedOut w call (Err e) w' → Listed call e × (w' ≡ w)

-- a parcel of the group is a find word with an empty body, or a book word with a lawful row
abbrev pub LawfulParcel : World → ℕ → ℕ → Type 0
LawfulParcel w lane place =
    ((asker : ℕ) × (asker < length w.tree) × (message_of (parcel_at w lane place).head ≡ Ok (Find asker)) × ((parcel_at w lane place).body ≡ []))
    ⊎ ((addressee : ℕ) × (addressee < length w.tree) × (message_of (parcel_at w lane place).head ≡ Ok (BookWord addressee))
    × (w.kind.lawful (parcel_at w lane place).body ≡ true))

-- no count passes this, so no counter comes to its end
abbrev pub most_counted : ℕ
most_counted = 31000000

-- what holds of a world that a run leads to
pub record Reached (w : World) : Type 0 where
  -- there are as many panels as the tree has
  pub panels : length w.panels ≡ length w.tree
  -- at most two parcels wait on a lane of the group, and each is lawful
  pub parcels : (lane place : ℕ) → Waits w lane place → LawfulParcel w lane place × (place < 2)
  -- an arrow points to the panel itself or to a neighbour; that of an idle panel is not itself
  pub arrows : (v : ℕ) → v < length w.tree → ((panel_at w v).arrow ≡ v) ⊎ (neighbours w.tree v (panel_at w v).arrow ≡ true)
  pub idle_arrows : (v : ℕ) → v < length w.tree → (panel_at w v).state ≡ Idle → (panel_at w v).arrow ≢ v
  -- a resting panel has no follower
  pub rests_alone : (v : ℕ) → v < length w.tree → (panel_at w v).state ≡ Resting → (panel_at w v).follower ≡ None
  -- the row of a panel with the book is lawful, that of any other is zeros
  pub book_row : (v : ℕ) → v < length w.tree → has_book (panel_at w v).state ≡ true → w.kind.lawful (panel_at w v).row ≡ true
  pub other_rows : (v : ℕ) → v < length w.tree → has_book (panel_at w v).state ≡ false
      → (panel_at w v).row ≡ replicate w.kind.width 0
  -- no count passes 31,000,000
  pub few_requests : w.counts.requests ≤ 1000000
  pub few_finds : w.counts.finds ≤ most_counted
  pub few_books : w.counts.books ≤ most_counted
  pub few_grants : w.counts.grants ≤ most_counted
  pub few_releases : w.counts.releases ≤ most_counted

abbrev pub FactsOfRuns : Type 0
FactsOfRuns = (history : List Entry) (w : World) → Run history w → Reached w
