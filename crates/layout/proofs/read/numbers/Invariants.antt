-- The pieces so far are numbers, and those are what was read.
use Rattle.std.proofs.Common.{◌≡◌, Ok, map, vec_items}
use Rattle.layout.specs.Layouts.{numbers_of}
use Rattle.layout.proofs.read.numbers.Given as goal

abbrev pub invariant-loop-piece : goal.invariant-loop-piece
invariant-loop-piece l = numbers_of (map (λ x. x.now) l.yielded) ≡ Ok (vec_items l.read)
