-- A panel's step, and what it leaves to do, are the rule of the delivery. Assumes nothing.
use Rattle.std.proofs.Common.{◌≡◌, ℕ, List, arith, Some, Ok, refl}
use Rattle.words.specs.declared.event.Event.TheVariants.{Landed}
use Rattle.words.specs.declared.message.Message.{Message}
use Rattle.words.specs.declared.message.Message.TheVariants.{Find, Book}
use Rattle.arrow.specs.declared.state.State.{State}
use Rattle.arrow.specs.declared.state.State.TheVariants.{Idle, Waiting, Holding, Resting}
use Rattle.arrow.specs.World.{World, panel_at}
use Rattle.arrow.specs.Rules.{with_panel, turned, hand_over, meets, by_rest, followed}
use Rattle.panel.specs.Steps.{landing, plain_step}
use Rattle.group.specs.Parts.{by_action}

module _ (w : World) (from u : ℕ) (body : List ℕ) where
  landed : (a : ℕ) (s : State)
      → by_rest s (Ok (Landed a u 0), with_panel w u (turned from (followed (Some a) (panel_at w u)))) (hand_over w u a from (Landed a u 1) (λ c. c))
      ≡ by_action w from u (panel_at w u).row body (landing s from a (panel_at w u)).0 (landing s from a (panel_at w u)).1
  landed a Idle = refl
  landed a Waiting = refl
  landed a Holding = refl
  landed a Resting = grind arith

  -- meeting a message is the panel's step, and then what is left to do
  pub met : (message : Message)
      → meets w from u body message
      ≡ by_action w from u (panel_at w u).row body (plain_step (panel_at w u) from u message body).0 (plain_step (panel_at w u) from u message body).1
  met (Find a) = grind (arith, landed a (panel_at w u).state)
  met (Book a) = grind arith
