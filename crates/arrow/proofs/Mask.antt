-- The word of waiting panels says who waits: by induction on the panels, one bit at a time. Assumes nothing.
use Rattle.std.proofs.Common.{◌≡◌, ℕ, zero, suc, ◌+◌, ◌*◌, ◌/◌, ◌%◌, ◌^◌, ◌<◌, ◌≤◌, List, [], ◌∷◌, length, sym, refl, ap, ◌∙◌, pow-suc, one-add, arith}
use native.Mathlib.Nat.{zero-div}
use lib.Count.{ones, ones_in, ones_step}
use Rattle.std.proofs.lemmas.Nat.{shr-shr}
use Rattle.arrow.specs.declared.state.State.{State}
use Rattle.arrow.specs.declared.state.State.TheVariants.{Idle, Waiting, Holding, Resting}
use Rattle.arrow.specs.World.{Panel}
use Rattle.arrow.specs.Mask.{waiting_bit, waiting_word, how_many_wait, state_of, WordOfWaiting}

-- a bit is 0 or 1
pub bit_small : (s : State) → waiting_bit s ≤ 1
bit_small Idle = omega arith
bit_small Waiting = omega arith
bit_small Holding = omega arith
bit_small Resting = omega arith

-- the lowest bit, and what stands above it
lowest : (b rest : ℕ) → b ≤ 1 → (b + 2 * rest) % 2 ≡ b
lowest b rest small = omega arith

above : (b rest : ℕ) → b ≤ 1 → (b + 2 * rest) / 2 ≡ rest
above b rest small = omega arith

bits : (panels : List Panel) (v : ℕ) → waiting_word panels / 2 ^ v % 2 ≡ waiting_bit (state_of panels v)
bits [] v = rw zero-div
bits (p ∷ more) zero = omega (arith, bit_small p.state)
bits (p ∷ more) (suc v) =
    let word = waiting_word (p ∷ more) in
    let half : word / 2 ≡ waiting_word more = above (waiting_bit p.state) (waiting_word more) (bit_small p.state) in
    let down : word / 2 ^ suc v ≡ waiting_word more / 2 ^ v =
    ap (λ k. word / 2 ^ k) (sym (one-add v)) ∙ sym (shr-shr word 1 v) ∙ ap (λ n. n / 2 ^ v) half in
    rw down (bits more v)

number : (panels : List Panel) → ones (waiting_word panels) ≡ how_many_wait panels
unfolding ones ones_in
number [] = refl
number (p ∷ more) =
    let small = bit_small p.state in
    ones_step (waiting_word (p ∷ more))
    ∙ rw (lowest (waiting_bit p.state) (waiting_word more) small, above (waiting_bit p.state) (waiting_word more) small, number more)

fits : (panels : List Panel) → waiting_word panels < 2 ^ length panels
fits [] = omega arith
fits (p ∷ more) = rw pow-suc (omega (arith, bit_small p.state, fits more))

pub word_of_waiting : WordOfWaiting
word_of_waiting panels = record { bits = bits panels; number = number panels; fits = fits panels }
