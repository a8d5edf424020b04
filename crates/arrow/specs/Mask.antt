-- Which panels wait, as one word, and how many they are. Assumes nothing: the law is proved, and named by a contract.
use Rattle.std.specs.Prelude.{◌≡◌, ℕ, ◌+◌, ◌*◌, ◌/◌, ◌%◌, ◌^◌, ◌<◌, List, [], ◌∷◌, length, None, count_ones, slice_index_or}
use Rattle.arrow.specs.declared.state.State.{State}
use Rattle.arrow.specs.declared.state.State.TheVariants.{Idle, Waiting, Holding, Resting}
use Rattle.arrow.specs.World.{Panel}

-- 1 for a panel that waits, else 0
abbrev pub waiting_bit : State → ℕ
waiting_bit Idle = 0
waiting_bit Waiting = 1
waiting_bit Holding = 0
waiting_bit Resting = 0

-- which panels wait, as one word: bit v is that of panel v
abbrev pub waiting_word : List Panel → ℕ
waiting_word [] = 0
waiting_word (p ∷ more) = waiting_bit p.state + 2 * waiting_word more

-- how many panels wait
abbrev pub how_many_wait : List Panel → ℕ
how_many_wait [] = 0
how_many_wait (p ∷ more) = waiting_bit p.state + how_many_wait more

-- the state of panel v; a panel that does not exist is idle
abbrev pub state_of : List Panel → ℕ → State
state_of panels v = (slice_index_or panels v (record { arrow = 0; state = Idle; follower = None; row = [] })).state

-- who waits is what the word says: bit v is 1 exactly when panel v waits, its ones are as many as panels wait, and it has a bit for each panel
pub record SaysWhoWaits (panels : List Panel) : Type 0 where
  pub bits : (v : ℕ) → waiting_word panels / 2 ^ v % 2 ≡ waiting_bit (state_of panels v)
  pub number : count_ones (waiting_word panels) ≡ how_many_wait panels
  pub fits : waiting_word panels < 2 ^ length panels

abbrev pub WordOfWaiting : Type 0
WordOfWaiting = (panels : List Panel) → SaysWhoWaits panels
