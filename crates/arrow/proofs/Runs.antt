-- The invariant over runs: a group is as new, or it is open and coupled with a directory. Every call keeps it, and is refused only by
-- what is listed for it. Assumes nothing.
use Rattle.std.proofs.Common.{◌≡◌, ℕ, ◌+◌, ◌-◌, not, ltb, ◌⊎◌, List, [], ◌∷◌, ◌++◌, length, Ok, Err, Result, sym, refl, ap, ◌∙◌, subst, inl, inr, arith}
use Rattle.std.proofs.lemmas.List.{append-nil}
use Rattle.std.proofs.lemmas.Bool.{cond_both, not-false, ltb-false, lt-ltb, both_ways}
use Rattle.book.specs.Kinds.{Book, Sound as SoundKind}
use Rattle.carrier.specs.Parcels.{Lanes, any_waits}
use Rattle.tree.specs.Tree.{lawful_tree, lane_count}
use Rattle.tree.proofs.Facts.{some_panel}
use Rattle.words.specs.declared.event.Event.{Event}
use Rattle.words.specs.declared.event.Event.TheVariants.{Opened as OpenedEvent, Asked, Granted, Passed, Landed, Moved, Written, Rests, Sent, Refused}
use Rattle.words.specs.declared.refusal.Refusal.{Refusal}
use Rattle.words.specs.declared.refusal.Refusal.TheVariants.{AlreadyOpen}
use Rattle.arrow.specs.World.{World, is_open, new_world}
use Rattle.arrow.specs.Rules.{Outcome, open_call, opened_world}
use Rattle.arrow.specs.Runs.{Call, opens, requests, delivers, delivers_oldest, writes, releases, Entry, CarriedOut, Run, new, then}
use Rattle.arrow.specs.Clauses.{landed_distance, landed_distances, written_before, accepted_writes}
use Rattle.arrow.specs.Facts.{Listed, RefusalsAreListed}
use Rattle.arrow.proofs.Begins.{opens_open}
use Rattle.arrow.proofs.Answering.{Answers, Does, refused}
use Rattle.arrow.proofs.Calls.{request_done, release_done, write_done}
use Rattle.arrow.proofs.Coupling.{Opened}
use Rattle.arrow.proofs.Deliveries.{deliver_done}

-- one more entry at the end of a history
pub landed_more : (ps : List ℕ) (history : List Entry) (entry : Entry)
    → landed_distances ps (history ++ entry ∷ []) ≡ landed_distances ps history + landed_distance ps entry.answer
landed_more ps [] entry = omega arith
landed_more ps (first ∷ history) entry = omega (arith, landed_more ps history entry)

written_first : (answer : Result Event Refusal) (xs ys : List ℕ) → written_before answer (xs ++ ys) ≡ written_before answer xs ++ ys
written_first (Ok (OpenedEvent highest)) xs ys = refl
written_first (Ok (Asked panel to)) xs ys = refl
written_first (Ok (Granted panel from)) xs ys = refl
written_first (Ok (Passed asker at to)) xs ys = refl
written_first (Ok (Landed asker at book)) xs ys = refl
written_first (Ok (Moved addressee at to)) xs ys = refl
written_first (Ok (Written panel entry)) xs ys = refl
written_first (Ok (Rests panel)) xs ys = refl
written_first (Ok (Sent panel to)) xs ys = refl
written_first (Ok (Refused number)) xs ys = refl
written_first (Err e) xs ys = refl

pub written_more : (history : List Entry) (entry : Entry)
    → accepted_writes (history ++ entry ∷ []) ≡ accepted_writes history ++ written_before entry.answer []
written_more [] entry = refl
written_more (first ∷ history) entry =
    ap (written_before first.answer) (written_more history entry)
    ∙ written_first first.answer (accepted_writes history) (written_before entry.answer [])

-- a group that is not open is as new, and nothing was accepted
pub record AsNew (history : List Entry) (w : World) : Type 0 where
  pub kind : SoundKind w.kind
  pub is_new : w ≡ new_world w.kind w.lanes
  pub none_landed : (ps : List ℕ) → landed_distances ps history ≡ 0
  pub none_written : accepted_writes history ≡ []

-- the invariant
abbrev pub ReachedBy : List Entry → World → Type 0
ReachedBy history w = AsNew history w ⊎ Opened (landed_distances w.tree history) (accepted_writes history) w

-- what a call answers and leaves after a history
abbrev pub Step : List Entry → World → Call → Result Event Refusal → World → Type 0
Step history w call (Err e) w' = Listed call e × (w' ≡ w)
Step history w call (Ok event) w' =
    Opened (landed_distances w'.tree (history ++ record { call = call; answer = Ok event } ∷ []))
    (accepted_writes (history ++ record { call = call; answer = Ok event } ∷ [])) w'

-- on an open group
open_step : (history : List Entry) (w : World) (call : Call) (answer : Result Event Refusal) (w' : World)
    → Answers (landed_distances w.tree history) (accepted_writes history) w call answer w' → Step history w call answer w'
unfolding Answers
open_step history w call (Err e) w' done = done
open_step history w call (Ok event) w' done =
    let entry : Entry = record { call = call; answer = Ok event } in
    let l : landed_distances w.tree history + landed_distance w'.tree (Ok event) ≡ landed_distances w'.tree (history ++ entry ∷ []) =
    ap (λ ps. landed_distances ps history + landed_distance w'.tree (Ok event)) (sym done.0) ∙ sym (landed_more w'.tree history entry) in
    subst (λ n. Opened n (accepted_writes (history ++ entry ∷ [])) w') l
    (subst (λ ws. Opened (landed_distances w.tree history + landed_distance w'.tree (Ok event)) ws w') (sym (written_more history entry)) done.1)

open_done : (landed : ℕ) (written : List ℕ) (w : World) → Opened landed written w → (call : Call) (answer : Result Event Refusal) (w' : World)
    → CarriedOut w call answer w' → Answers landed written w call answer w'
open_done landed written w o (opens parents) answer w' e =
    subst (Does landed written w (opens parents)) e
    (cond_both (is_open w) _ _ (Does landed written w (opens parents)) (λ _. refused landed written w (opens parents) AlreadyOpen (inl refl))
    (λ f. absurd (both_ways (is_open w) f (lt-ltb 0 (length w.tree) (some_panel w.tree o.tree)))))
open_done landed written w o (requests panel) answer w' e = subst (Does landed written w (requests panel)) e (request_done landed written w o panel)
open_done landed written w o (delivers lane spare) answer w' (place, waits, e) =
    subst (Does landed written w (delivers lane spare)) e (deliver_done landed written w o (delivers lane spare) (λ _ l. l) lane (length spare) place waits)
open_done landed written w o (delivers_oldest lane spare) answer w' e =
    subst (Does landed written w (delivers_oldest lane spare)) e
    (deliver_done landed written w o (delivers_oldest lane spare) (λ _ l. l) lane (length spare) 0 (λ some. some))
open_done landed written w o (writes panel entry) answer w' e =
    subst (Does landed written w (writes panel entry)) e (write_done landed written w o panel entry)
open_done landed written w o (releases panel) answer w' e = subst (Does landed written w (releases panel)) e (release_done landed written w o panel)

-- on a group that is as new: every call but open is refused
module _ (history : List Entry) (kind : Book) (sound : SoundKind kind) (lanes : Lanes)
    (none_landed : (ps : List ℕ) → landed_distances ps history ≡ 0) (none_written : accepted_writes history ≡ []) where
  abbrev Steps : Call → Outcome → Type 0
  Steps call o = Step history (new_world kind lanes) call o.0 o.1

  opens_done : (ps : List ℕ) → Steps (opens ps) (open_call (new_world kind lanes) ps)
  opens_done ps =
      let P = Steps (opens ps) in
      cond_both (not (lawful_tree ps)) _ _ P (λ _. (inr (inl refl), refl)) (λ lawful.
      cond_both (ltb (length lanes) (lane_count ps)) _ _ P (λ _. (inr (inr (inl refl)), refl)) (λ enough.
      cond_both (any_waits lanes) _ _ P (λ _. (inr (inr (inr (inl refl))), refl)) (λ empty.
      begun ps (opens_open kind lanes ps sound (not-false (lawful_tree ps) lawful) (ltb-false (length lanes) (lane_count ps) enough) empty))))
    where
      begun : (ps : List ℕ) → Opened 0 [] (opened_world (new_world kind lanes) ps)
          → Steps (opens ps) (Ok (OpenedEvent (length ps - 1)), opened_world (new_world kind lanes) ps)
      begun ps o =
          let entry : Entry = record { call = opens ps; answer = Ok (OpenedEvent (length ps - 1)) } in
          let l : 0 ≡ landed_distances ps (history ++ entry ∷ []) = omega (arith, landed_more ps history entry, none_landed ps) in
          let ws : [] ≡ accepted_writes (history ++ entry ∷ []) = sym (written_more history entry ∙ append-nil (accepted_writes history) ∙ none_written) in
          subst (λ n. Opened n (accepted_writes (history ++ entry ∷ [])) (opened_world (new_world kind lanes) ps)) l
          (subst (λ xs. Opened 0 xs (opened_world (new_world kind lanes) ps)) ws o)

  new_done : (call : Call) (answer : Result Event Refusal) (w' : World) → CarriedOut (new_world kind lanes) call answer w'
      → Step history (new_world kind lanes) call answer w'
  new_done (opens ps) answer w' e = subst (Steps (opens ps)) e (opens_done ps)
  new_done (requests panel) answer w' e = subst (Steps (requests panel)) e (inl refl, refl)
  new_done (delivers lane spare) answer w' (place, waits, e) = subst (Steps (delivers lane spare)) e (inl refl, refl)
  new_done (delivers_oldest lane spare) answer w' e = subst (Steps (delivers_oldest lane spare)) e (inl refl, refl)
  new_done (writes panel entry) answer w' e = subst (Steps (writes panel entry)) e (inl (inl refl), refl)
  new_done (releases panel) answer w' e = subst (Steps (releases panel)) e (inl refl, refl)

-- a call after a history
pub carried_step : (history : List Entry) (w : World) → ReachedBy history w → (call : Call) (answer : Result Event Refusal) (w' : World)
    → CarriedOut w call answer w' → Step history w call answer w'
carried_step history w (inl n) call answer w' e =
    subst (λ v. Step history v call answer w') (sym n.is_new)
    (new_done history w.kind n.kind w.lanes n.none_landed n.none_written call answer w'
    (subst (λ v. CarriedOut v call answer w') n.is_new e))
carried_step history w (inr o) call answer w' e =
    open_step history w call answer w' (open_done (landed_distances w.tree history) (accepted_writes history) w o call answer w' e)

-- a refusal keeps the invariant
refusal_keeps : (history : List Entry) (w : World) (call : Call) (e : Refusal) → ReachedBy history w
    → ReachedBy (history ++ record { call = call; answer = Err e } ∷ []) w
refusal_keeps history w call e (inl n) =
    let entry : Entry = record { call = call; answer = Err e } in
    inl (record {
      kind = n.kind;
      is_new = n.is_new;
      none_landed = λ ps. omega (arith, landed_more ps history entry, n.none_landed ps);
      none_written = written_more history entry ∙ append-nil (accepted_writes history) ∙ n.none_written;
    })
refusal_keeps history w call e (inr o) =
    let entry : Entry = record { call = call; answer = Err e } in
    let l : landed_distances w.tree history ≡ landed_distances w.tree (history ++ entry ∷ []) = omega (arith, landed_more w.tree history entry) in
    let ws : accepted_writes history ≡ accepted_writes (history ++ entry ∷ []) = sym (written_more history entry ∙ append-nil (accepted_writes history)) in
    inr (subst (λ n. Opened n (accepted_writes (history ++ entry ∷ [])) w) l (subst (λ xs. Opened (landed_distances w.tree history) xs w) ws o))

step_keeps : (history : List Entry) (w : World) (call : Call) (answer : Result Event Refusal) (w' : World) → ReachedBy history w
    → Step history w call answer w' → ReachedBy (history ++ record { call = call; answer = answer } ∷ []) w'
step_keeps history w call (Ok event) w' r s = inr s
step_keeps history w call (Err e) w' r s =
    subst (ReachedBy (history ++ record { call = call; answer = Err e } ∷ [])) (sym s.1) (refusal_keeps history w call e r)

-- every run keeps the invariant
pub run_reaches : {history : List Entry} {w : World} → Run history w → ReachedBy history w
run_reaches (new kind sound lanes) = inl (record { kind = sound; is_new = refl; none_landed = λ _. refl; none_written = refl })
run_reaches (then {history = history} {w = w} run call answer w' e) =
    let r = run_reaches run in
    step_keeps history w call answer w' r (carried_step history w r call answer w' e)

pub refusals_are_listed : RefusalsAreListed
refusals_are_listed history w run call e w' carried = carried_step history w (run_reaches run) call (Err e) w' carried
