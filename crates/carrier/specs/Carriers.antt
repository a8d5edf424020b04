-- What waits on the line and on the tray, and which parcel the tray gives. Assumes nothing.
use Rattle.std.specs.Prelude.{ℕ, ◌+◌, ◌*◌, ◌/◌, ◌%◌, ◌^◌, cond, ◌==◌}
use Rattle.carrier.specs.Parcels.{Lanes}
use Rattle.carrier.specs.Stored.{lanes_of}
use Rattle.carrier.specs.declared.line.Line.{Line}
use Rattle.carrier.specs.declared.storage.End.{End}
use Rattle.carrier.specs.declared.storage.End.TheVariants.{Oldest, Newest}
use Rattle.carrier.specs.declared.tray.Tray.{Tray}

-- what waits on a line
abbrev pub line_lanes : Line → Lanes
line_lanes line = lanes_of line.storage

-- what waits on a tray
abbrev pub tray_lanes : Tray → Lanes
tray_lanes tray = lanes_of tray.storage

-- the number of a tray after a take that it accepted
abbrev pub next_number : ℕ → ℕ
next_number number = (1664525 * number + 1013904223) % 2 ^ 32

-- the end of a lane that a tray takes from, by its new number: the newest where bit 31 is 1
abbrev pub end_by : ℕ → End
end_by number = cond (number / 2 ^ 31 % 2 == 1) Newest Oldest
