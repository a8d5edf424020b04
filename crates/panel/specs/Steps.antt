-- What a row and a panel in memory mean, and what a panel does with a message. Assumes nothing.
use Rattle.std.specs.Prelude.{◌≡◌, ℕ, Bool, true, false, cond, not, ◌&&◌, List, length, Some, None, Ok, Err, Result, ◌==◌, nat_le}
use Rattle.words.specs.Bodies.{longest_body}
use Rattle.words.specs.BodyWords.{body_words}
use Rattle.words.specs.declared.message.Message.{Message}
use Rattle.words.specs.declared.message.Message.TheVariants.{Find, Book}
use Rattle.words.specs.declared.refusal.Refusal.{Refusal}
use Rattle.words.specs.declared.refusal.Refusal.TheVariants.{BodyTooLong}
use Rattle.arrow.specs.declared.state.State.{State}
use Rattle.arrow.specs.declared.state.State.TheVariants.{Idle, Waiting, Holding, Resting}
use Rattle.arrow.specs.World.{Panel}
use Rattle.arrow.specs.Rules.{followed, about, emptied, turned, with_row}
use Rattle.panel.specs.declared.action.Action.{Action}
use Rattle.panel.specs.declared.action.Action.TheVariants.{Pass, Keep, HandOver, Hold, MoveOn}
use Rattle.panel.specs.declared.record.Panel.{Panel as PanelRecord}
use Rattle.panel.specs.declared.row.Row.{Row}

-- the words of a row
abbrev pub row_words : Row → List ℕ
row_words r = body_words r.body

-- a panel in memory
abbrev pub panel_of : PanelRecord → Panel
panel_of p = record { arrow = p.arrow; state = p.state; follower = p.follower; row = row_words p.row }

-- lent words, copied into a row unless they are too many
abbrev pub Copied : List ℕ → Result Row Refusal → Type 0
Copied list (Ok row) = (nat_le (length list) longest_body ≡ true) × (row_words row ≡ list)
Copied list (Err e) = (nat_le (length list) longest_body ≡ false) × (e ≡ BodyTooLong)

-- the opening row of a kind, which no kind refuses to lay into enough words
abbrev pub OpeningRow : List ℕ → Result Row Refusal → Type 0
OpeningRow opening (Ok row) = row_words row ≡ opening
OpeningRow opening (Err e) = ⊥

-- a panel after the book went from it
abbrev pub left_empty : Panel → Panel
left_empty p = followed None (about Idle (emptied p))

-- a find word for a ends at a panel: the book leaves at once where it rests, else a is the follower
abbrev pub landing : State → ℕ → ℕ → Panel → Action × Panel
landing Idle from a p = (Keep a, turned from (followed (Some a) p))
landing Waiting from a p = (Keep a, turned from (followed (Some a) p))
landing Holding from a p = (Keep a, turned from (followed (Some a) p))
landing Resting from a p = (HandOver a, turned from (left_empty p))

-- what a panel that stands at `at` has to do with a message that came from a neighbour, and how it is afterwards
abbrev pub plain_step : Panel → ℕ → ℕ → Message → List ℕ → Action × Panel
plain_step p from at (Find a) body = cond (p.arrow == at) (landing p.state from a p) (Pass a p.arrow, turned from p)
plain_step p from at (Book a) body = cond (at == a) (Hold, about Holding (with_row body p)) (MoveOn a, p)

-- a row that the panel would have to keep is refused where it is too long
abbrev pub too_long : Message → ℕ → List ℕ → Bool
too_long (Find a) at body = false
too_long (Book a) at body = at == a && not (nat_le (length body) longest_body)

-- the same, refused where the panel would have to keep too long a row
abbrev pub panel_step : Panel → ℕ → ℕ → Message → List ℕ → Result Action Refusal × Panel
panel_step p from at message body =
    cond (too_long message at body) (Err BodyTooLong, p) (Ok (plain_step p from at message body).0, (plain_step p from at message body).1)
