-- The worked run: each directory on the way, written out. Assumes nothing.
use Rattle.std.proofs.Common.{refl, arith}
use Rattle.directory.specs.Directory.{Directory, empty, more}
use Rattle.directory.specs.Example.{four, WorkedExample}
use Rattle.directory.proofs.Makes.{opening_made, makes_opening, request_made, makes_request, pass_made, makes_pass, land_made, makes_land, hand_on_made, makes_hand_on}

pub worked_example : WorkedExample
worked_example =
    let d0 : Directory = opening_made four in
    let d1 : Directory = request_made d0 2 in
    let d2 : Directory = request_made d1 3 in
    let d3 : Directory = pass_made d2 3 3 1 in
    let d4 : Directory = pass_made d3 2 2 1 in
    let d5 : Directory = land_made d4 2 1 3 in
    let d6 : Directory = land_made d5 3 1 0 in
    let d7 : Directory = hand_on_made d6 0 3 in
    let d8 : Directory = hand_on_made d7 3 2 in (
      d0,
      d8,
      makes_opening four,
      more (makes_request d0 2 refl) (more (makes_request d1 3 refl) (more (makes_pass d2 3 3 1 refl (omega arith))
          (more (makes_pass d3 2 2 1 refl (omega arith)) (more (makes_land d4 2 1 3 refl refl) (more (makes_land d5 3 1 0 refl refl)
          (more (makes_hand_on d6 0 3 refl refl) (more (makes_hand_on d7 3 2 refl refl) empty))))))),
      refl,
      refl,
      refl,
      refl,
      refl,
      refl,
      refl,
      refl,
    )
