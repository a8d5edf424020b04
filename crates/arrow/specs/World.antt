-- What a group is at one moment: its panels, its counts, and what waits on its carrier. Assumes nothing.
use Rattle.std.specs.Prelude.{ℕ, Bool, List, [], length, None, Option, nat_lt, slice_index_or}
use Rattle.book.specs.Kinds.{Book}
use Rattle.carrier.specs.Parcels.{Lanes}
use Rattle.arrow.specs.declared.counts.Counts.{Counts}
use Rattle.arrow.specs.declared.state.State.{State}
use Rattle.arrow.specs.declared.state.State.TheVariants.{Idle}

-- a panel: where its arrow points, what it is about, the panel that gets the book after it, and its row of words
pub record Panel : Type 0 where
  pub arrow : ℕ
  pub state : State
  pub follower : Option ℕ
  pub row : List ℕ

-- a group over a kind of book and a carrier: the parents of its panels (none while it is not open), the panels, the counts,
-- and the parcels that wait on each lane of the carrier
pub record World : Type 0 where
  pub kind : Book
  pub tree : List ℕ
  pub panels : List Panel
  pub counts : Counts
  pub lanes : Lanes

-- the group is open
abbrev pub is_open : World → Bool
is_open w = nat_lt 0 (length w.tree)

-- panel v
abbrev pub panel_at : World → ℕ → Panel
panel_at w v = slice_index_or w.panels v (record { arrow = 0; state = Idle; follower = None; row = [] })

-- nothing counted
abbrev pub no_counts : Counts
no_counts = record { requests = 0; finds = 0; books = 0; grants = 0; releases = 0 }

-- a new group over a kind and a carrier: not open, no panels
abbrev pub new_world : Book → Lanes → World
new_world kind lanes = record { kind = kind; tree = []; panels = []; counts = no_counts; lanes = lanes }
