-- A body that fits is never refused by a panel's step. Assumes nothing.
use Rattle.std.proofs.Common.{◌≡◌, ℕ, ◌≤◌, Bool, true, false, cond, not, ◌&&◌, eqb, List, length, Ok, Err, Result, refl, ap, ◌∙◌, arith}
use Rattle.std.proofs.lemmas.Bool.{le-leb}
use Rattle.carrier.specs.Parcels.{longest_body}
use Rattle.words.specs.declared.message.Message.{Message}
use Rattle.words.specs.declared.message.Message.TheVariants.{Find, Book}
use Rattle.words.specs.declared.refusal.Refusal.{Refusal}
use Rattle.words.specs.declared.refusal.Refusal.TheVariants.{BodyTooLong}
use Rattle.arrow.specs.World.{Panel}
use Rattle.panel.specs.declared.action.Action.{Action}
use Rattle.panel.specs.Steps.{plain_step, panel_step, too_long}

and_false : (b : Bool) → b && false ≡ false
and_false true = refl
and_false false = refl

fits : (message : Message) (at : ℕ) (body : List ℕ) → length body ≤ longest_body → too_long message at body ≡ false
fits (Find a) at body short = refl
fits (Book a) at body short = ap (λ b. eqb at a && not b) (le-leb (length body) longest_body short) ∙ and_false (eqb at a)

-- a body of at most 32 words is met by the plain step
pub short_step : (p : Panel) (from at : ℕ) (message : Message) (body : List ℕ) → length body ≤ longest_body
    → panel_step p from at message body ≡ (Ok (plain_step p from at message body).0, (plain_step p from at message body).1)
short_step p from at message body short =
    ap (λ b. cond {A = Result Action Refusal × Panel} b (Err BodyTooLong, p) (Ok (plain_step p from at message body).0, (plain_step p from at message body).1))
    (fits message at body short)

abbrev ok_or : Action → Result Action Refusal → Action
ok_or other (Ok action) = action
ok_or other (Err e) = other

abbrev is_ok : Result Action Refusal → Bool
is_ok (Ok action) = true
is_ok (Err e) = false

-- so its action is the plain step's
pub short_ok : (p : Panel) (from at : ℕ) (message : Message) (body : List ℕ) (action : Action) (after : Panel) → length body ≤ longest_body
    → (Ok action, after) ≡ panel_step p from at message body → (action, after) ≡ plain_step p from at message body
short_ok p from at message body action after short e =
    ap (λ (s : Result Action Refusal × Panel). (ok_or action s.0, s.1)) (e ∙ short_step p from at message body short)

-- and it is not refused
pub short_err : (p : Panel) (from at : ℕ) (message : Message) (body : List ℕ) (e : Refusal) (after : Panel) → length body ≤ longest_body
    → (Err e, after) ≡ panel_step p from at message body → ⊥
short_err p from at message body e after short h =
    (let no : false ≡ true = ap (λ (s : Result Action Refusal × Panel). is_ok s.0) (h ∙ short_step p from at message body short) in search arith)
