-- The law over every list of moves: the opening directory keeps the laws of the queue, and each move keeps them.
-- Assumes nothing.
use Rattle.std.proofs.Common.{List, sym, ◌∙◌}
use Rattle.directory.specs.Directory.{Directory, Move, request, pass, land, hand_on, Does, Run, empty, more}
use Rattle.directory.specs.Law.{DirectoryLaw}
use Rattle.directory.specs.Queue.{Sound}
use Rattle.directory.proofs.Facts.{front_is_home, no_arrow_back}
use Rattle.directory.proofs.Moves.{request_sound, pass_sound, land_sound, hand_on_sound}
use Rattle.directory.proofs.Opening.{opening_sound}
use Rattle.directory.proofs.Waiting.{nobody_left_waiting}

-- each move keeps the laws
pub move_sound : (m : Move) {d e : Directory} → Sound d → Does m d e → Sound e
move_sound (request v) s m = request_sound s m
move_sound (pass a w u) s m = pass_sound s m
move_sound (land a w u) s m = land_sound s m
move_sound (hand_on v f) s m = hand_on_sound s m

-- and so does every list of them
pub run_sound : {ms : List Move} {d e : Directory} → Sound d → Run ms d e → Sound e
run_sound s empty = s
run_sound s (more {m = m} does run) = run_sound (move_sound m s does) run

pub directory_law : DirectoryLaw
directory_law parent tree ms d e o run =
    let s = run_sound (opening_sound tree o) run in
    record {
      sound = s;
      one_front = λ a b p q. front_is_home s a p ∙ sym (front_is_home s b q);
      no_arrow_back = no_arrow_back s;
      nobody_left_waiting = nobody_left_waiting s;
    }
