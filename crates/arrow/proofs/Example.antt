-- The worked run: the rules compute its answers. Assumes nothing.
use Rattle.std.proofs.Common.{◌≡◌, List, [], ◌∷◌, ◌++◌, length, replicate, sym, refl, subst, arith}
use Rattle.std.proofs.lemmas.List.{append-nil, append_assoc}
use Rattle.std.proofs.lemmas.Bool.{eqb-true}
use Rattle.book.specs.Kinds.{Sound}
use Rattle.tree.specs.Tree.{below_place, lawful_tree, climbs, distance, steps_towards, first_step, child, neighbours, lane_source, lane_target, lane_between}
use Rattle.arrow.specs.World.{World, new_world}
use Rattle.arrow.specs.Rules.{Outcome, open_call, request_call, deliver_call, release_call, write_call}
use Rattle.arrow.specs.Runs.{Call, opens, requests, delivers, delivers_oldest, writes, releases, Entry, CarriedOut, Run, new, then}
use Rattle.arrow.specs.Example.{one_word, worked_history, WorkedRun}

-- the one_word kind is a kind
one_word_sound : Sound one_word
one_word_sound = record {
  narrow = omega arith;
  long = λ row e. eqb-true (length row) 1 e;
  opens = refl;
  keeps = λ row entry e. refl;
}

-- what a call answers and leaves, with the oldest parcel at each delivery
abbrev carry : World → Call → Outcome
carry w (opens parents) = open_call w parents
carry w (requests panel) = request_call w panel
carry w (delivers lane spare) = deliver_call w lane (length spare) 0
carry w (delivers_oldest lane spare) = deliver_call w lane (length spare) 0
carry w (writes panel entry) = write_call w panel entry
carry w (releases panel) = release_call w panel

carried : (w : World) (call : Call) → CarriedOut w call (carry w call).0 (carry w call).1
carried w (opens parents) = refl
carried w (requests panel) = refl
carried w (delivers lane spare) = (0, (λ some. some), refl)
carried w (delivers_oldest lane spare) = refl
carried w (writes panel entry) = refl
carried w (releases panel) = refl

-- the world after the calls of a history, and the history with the answers of the rules
abbrev world_after : World → List Entry → World
world_after w [] = w
world_after w (entry ∷ more) = world_after (carry w entry.call).1 more

abbrev answers : World → List Entry → List Entry
answers w [] = []
answers w (entry ∷ more) = record { call = entry.call; answer = (carry w entry.call).0 } ∷ answers (carry w entry.call).1 more

runs : (history entries : List Entry) (w : World) → Run history w → Run (history ++ answers w entries) (world_after w entries)
runs history [] w run = subst (λ h. Run h w) (sym (append-nil history)) run
runs history (entry ∷ more) w run =
    let first : Entry = record { call = entry.call; answer = (carry w entry.call).0 } in
    let w' = (carry w entry.call).1 in
    subst (λ h. Run h (world_after w' more)) (append_assoc history (first ∷ []) (answers w' more))
    (runs (history ++ first ∷ []) more w' (then run entry.call first.answer w' (carried w entry.call)))

abbrev start : World
start = new_world one_word (replicate 6 [])

worked_answers : answers start worked_history ≡ worked_history
unfolding below_place lawful_tree climbs distance steps_towards first_step child neighbours lane_source lane_target lane_between
worked_answers = refl

pub worked_run : WorkedRun
unfolding below_place lawful_tree climbs distance steps_towards first_step child neighbours lane_source lane_target lane_between
worked_run = (
  world_after start worked_history,
  subst (λ h. Run h (world_after start worked_history)) worked_answers (runs [] worked_history start (new one_word one_word_sound (replicate 6 []))),
  refl,
  refl,
)
