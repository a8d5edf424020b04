-- The number of every refusal, in one definition. Assumes nothing.
use Rattle.std.specs.Prelude.{ℕ}
use Rattle.words.specs.declared.refusal.Refusal.{Refusal}
use Rattle.words.specs.declared.refusal.Refusal.TheVariants.{NotOpen, AlreadyOpen, UnlawfulTree, TooFewLanes, ParcelWaiting, NoSuchPanel, Engaged, RequestLimit, NoSuchLane, LaneEmpty, NotHolding, NoBook, UnlawfulRow, LaneFull, BodyTooLong, SpaceTooShort, UnlawfulWord, LogFull, BadLine, Rule}

-- the number that a refusal is logged and printed by
abbrev pub number_of : Refusal → ℕ
number_of NotOpen = 1
number_of AlreadyOpen = 2
number_of UnlawfulTree = 3
number_of TooFewLanes = 4
number_of ParcelWaiting = 5
number_of NoSuchPanel = 6
number_of Engaged = 7
number_of RequestLimit = 8
number_of NoSuchLane = 9
number_of LaneEmpty = 10
number_of NotHolding = 11
number_of NoBook = 12
number_of UnlawfulRow = 19
number_of LaneFull = 20
number_of BodyTooLong = 21
number_of SpaceTooShort = 22
number_of UnlawfulWord = 23
number_of LogFull = 25
number_of BadLine = 27
number_of (Rule n) = n.value
