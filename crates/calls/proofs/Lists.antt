-- One call more of a list that is carried out, and the spare words it is lent. Assumes nothing.
use Rattle.std.proofs.Common.{◌≡◌, ℕ, ◌+◌, ◌<◌, List, [], ◌∷◌, ◌++◌, length, get_or, take, Result, sym, refl, subst}
use Rattle.std.proofs.lemmas.List.{take_more}
use Rattle.words.specs.declared.event.Event.{Event}
use Rattle.words.specs.declared.refusal.Refusal.{Refusal}
use Rattle.arrow.specs.World.{World}
use Rattle.arrow.specs.Clauses.{GoesOn}
use Rattle.arrow.specs.Runs.{Entry}
use Rattle.calls.specs.Called.{call_of, MadeOf, ReachedBy}
use Rattle.calls.specs.declared.call.Call.{Call}

made_more : (size : ℕ) (calls : List Call) (history : List Entry) (call : Call) (entry : Entry) (spare : List ℕ)
    → length spare ≡ size → entry.call ≡ call_of call spare → MadeOf size calls history
    → MadeOf size (calls ++ call ∷ []) (history ++ entry ∷ [])
made_more size [] [] call entry spare long is made = ((spare, long, is), tt)
made_more size [] (e ∷ history) call entry spare long is made = absurd made
made_more size (c ∷ calls) [] call entry spare long is made = absurd made
made_more size (c ∷ calls) (e ∷ history) call entry spare long is made =
    (made.0, made_more size calls history call entry spare long is made.1)

-- the run of the first calls, with the next one added
pub reached_more : (calls : List Call) (i : ℕ) (d : Call) (spare spare' : List ℕ) (r : Result Event Refusal) (w w' : World)
    → i < length calls → length spare' ≡ length spare → GoesOn w (call_of (get_or calls i d) spare) r w'
    → ReachedBy (length spare) (take i calls) w → ReachedBy (length spare') (take (i + 1) calls) w'
reached_more calls i d spare spare' r w w' within long goes so =
    let next = goes so.history so.run in
    subst (λ (cs : List Call). ReachedBy (length spare') cs w') (sym (take_more calls i d within))
    (subst (λ (n : ℕ). ReachedBy n (take i calls ++ get_or calls i d ∷ []) w') (sym long) (record {
      history = _;
      made = made_more (length spare) (take i calls) so.history (get_or calls i d) _ spare refl refl so.made;
      run = next.0;
      clauses = next.1;
    }))
