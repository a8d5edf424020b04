-- What the parts of the rules answer where the group is as it should be: a word goes out on the lane to a neighbour, and the first step
-- is told; and how a write to the lists of a world shows in its panels and lanes. Assumes nothing.
use Rattle.std.proofs.Common.{◌≡◌, ℕ, ◌<◌, ◌≤◌, true, ◌&&◌, ltb, leb, List, [], length, set, None, Ok, Result, sym, refl, ap, ◌∙◌, subst}
use Rattle.std.proofs.lemmas.Bool.{cond-true, cond-false, and_from, lt-ltb, le-ltb, lt-leb}
use Rattle.carrier.specs.Parcels.{Parcel, Lanes, waiting, post_refusal, posted, longest_body, lane_room}
use Rattle.directory.specs.Directory.{Becomes}
use Rattle.directory.proofs.Updates.{changed, set_becomes}
use Rattle.tree.specs.Answers.{first_step_answer, lane_answer}
use Rattle.tree.specs.Tree.{lawful_tree, exists, neighbours, first_step, lane_between}
use Rattle.tree.proofs.Facts.{neighbours_exist}
use Rattle.words.specs.Messages.{message_word}
use Rattle.words.specs.declared.message.Message.{Message}
use Rattle.words.specs.declared.refusal.Refusal.{Refusal}
use Rattle.arrow.specs.declared.state.State.TheVariants.{Idle}
use Rattle.arrow.specs.World.{Panel, World, panel_at}
use Rattle.arrow.specs.Rules.{Outcome, with_part, with_panel, post_on, post_word, send}

-- a write to the panels, and to the lanes
pub panel_change : (w : World) (v : ℕ) (p : Panel) → v < length w.panels → Becomes (panel_at w) v p (panel_at (with_panel w v p))
panel_change w v p l = set_becomes w.panels v p (record { arrow = 0; state = Idle; follower = None; row = [] }) l

pub lane_change : (lanes : Lanes) (k : ℕ) (new : List Parcel) → k < length lanes → Becomes (waiting lanes) k new (waiting (set lanes k new))
lane_change lanes k new l = set_becomes lanes k new [] l

-- on with a part that was answered
pub with_ok : {X : Type 0} (P : Outcome → Type 0) {r : Result X Refusal} {x : X} (w : World) (rest : X → Outcome) → r ≡ Ok x → P (rest x)
    → P (with_part r w rest)
with_ok P w rest e p = subst (λ r. P (with_part r w rest)) (sym e) p

pub panels_exist : (ps : List ℕ) (u v : ℕ) → u < length ps → v < length ps → (exists ps u && exists ps v) ≡ true
panels_exist ps u v hu hv = and_from (exists ps u) (exists ps v) (lt-ltb u (length ps) hu) (lt-ltb v (length ps) hv)

pub first_step_ok : (ps : List ℕ) (u a : ℕ) → u < length ps → a < length ps → first_step_answer ps u a ≡ Ok (first_step ps u a)
first_step_ok ps u a hu ha = cond-true (exists ps u && exists ps a) _ _ (panels_exist ps u a hu ha)

lane_ok : (ps : List ℕ) → lawful_tree ps ≡ true → (u x : ℕ) → neighbours ps u x ≡ true → lane_answer ps u x ≡ Ok (lane_between ps u x)
lane_ok ps lawful u x t =
    let e = neighbours_exist ps lawful u x t in
    cond-true (exists ps u && exists ps x) _ _ (panels_exist ps u x e.0 e.1) ∙ cond-true (neighbours ps u x) _ _ t

post_ok : (lanes : Lanes) (k size : ℕ) → k < length lanes → size ≤ longest_body → length (waiting lanes k) < lane_room
    → post_refusal lanes k size ≡ None
post_ok lanes k size l s r =
    cond-false (leb (length lanes) k) _ _ (lt-leb (length lanes) k l) ∙ cond-false (ltb longest_body size) _ _ (le-ltb longest_body size s)
    ∙ cond-false (leb lane_room (length (waiting lanes k))) _ _ (lt-leb lane_room (length (waiting lanes k)) r)

-- a word with a body goes out to a neighbour where its lane has room
pub send_ok : (w : World) (u x : ℕ) (m : Message) (head : ℕ) (body : List ℕ) → lawful_tree w.tree ≡ true → neighbours w.tree u x ≡ true
    → message_word m ≡ Ok head → length body ≤ longest_body → lane_between w.tree u x < length w.lanes
    → length (waiting w.lanes (lane_between w.tree u x)) < lane_room
    → send w u x m body ≡ Ok (posted w.lanes (lane_between w.tree u x) (record { head = head; body = body }))
send_ok w u x m head body lawful t made short there room =
    let k = lane_between w.tree u x in
    ap (λ r. post_word w.lanes body r (message_word m)) (lane_ok w.tree lawful u x t)
    ∙ ap (λ r. post_word w.lanes body (Ok k) r) made
    ∙ ap (post_on w.lanes k (record { head = head; body = body })) (post_ok w.lanes k (length body) there short room)

-- a lane has room after a take where it had before, or where the take left room
pub room_after : {lane lane' : ℕ → List Parcel} {k : ℕ} {left : List Parcel} → Becomes lane k left lane' → length left < 2
    → (j : ℕ) → (¬ (j ≡ k) → length (lane j) < 2) → length (lane' j) < 2
room_after {lane} change here j there =
    changed (λ i parcels. i ≡ j → length parcels < 2) change (λ _. here)
    (λ i n e. subst (λ h. length (lane h) < 2) (sym e) (there (λ c. n (e ∙ c)))) j refl
