-- The length, and the words so far. Assumes nothing.
use Rattle.std.proofs.Common.{◌≡◌, ◌+◌, ◌∷◌, length, map, take}
use Rattle.std.specs.Int.{w32, from_be_bytes}
use Rattle.notice_book.proofs.text.Text.row.Given as goal

abbrev pub invariant-loop-four : goal.invariant-loop-four
invariant-loop-four l = (l.row.items ≡ length l.self.bytes.items ∷ map (from_be_bytes w32) (take l.four-index l.fours)) × (length l.row.items ≡ l.four-index + 1)
