-- The word of waiting panels, one panel more. Assumes nothing.
use Rattle.std.proofs.Common.{◌≡◌, ℕ, ◌+◌, ◌*◌, ◌%◌, ◌^◌, ◌<◌, ◌≤◌, List, [], ◌∷◌, ◌++◌, map, length, get_or, take, sym, refl, ap, ◌∙◌, mul_assoc, pow-suc, arith}
use mir.Val.{bool_byte}
use denote.Enum.Bare.{sameb}
use Rattle.arrow.specs.contracts.state.State.{the_type}
use Rattle.arrow.specs.declared.state.State.{State}
use Rattle.arrow.specs.declared.state.State.TheVariants.{Idle, Waiting, Holding, Resting}
use lib.Bits.{bit_or}
use Rattle.std.proofs.lemmas.Nat.{or_comm, or_shifted, shl_whole}
use Rattle.std.proofs.lemmas.List.{length-map, length-take-le, map-append, take_more}
use Rattle.arrow.specs.Mask.{waiting_bit, waiting_word}
use Rattle.arrow.specs.World.{Panel}
use Rattle.arrow.proofs.Mask.{bit_small, word_of_waiting}
use Rattle.panel.specs.declared.record.Panel.{Panel as PanelRecord}
use Rattle.panel.specs.Steps.{panel_of}

word_more : (ps : List Panel) (p : Panel) → waiting_word (ps ++ p ∷ []) ≡ waiting_bit p.state * 2 ^ length ps + waiting_word ps
word_more [] p = omega arith
word_more (q ∷ ps) p =
    let b = waiting_bit p.state in
    let k = 2 ^ length ps in
    let more : waiting_word (ps ++ p ∷ []) ≡ b * k + waiting_word ps = word_more ps p in
    let power : b * 2 ^ length (q ∷ ps) ≡ b * k * 2 = ap (λ n. b * n) (pow-suc 2 (length ps)) ∙ sym (mul_assoc b k 2) in
    omega (arith, more, power)

bit_in : (b v word : ℕ) → b ≤ 1 → v < 32 → word < 2 ^ v → bit_or word (b * 2 ^ v % 4294967296) ≡ b * 2 ^ v + word
bit_in b v word small within below =
    let fits : b < 2 ^ 1 = omega arith in
    ap (bit_or word) (shl_whole b 1 v 32 fits (omega arith)) ∙ or_comm word (b * 2 ^ v) ∙ or_shifted b v word below

-- 1 for a panel that waits, else 0
pub bit_is : (s : State) → bool_byte (sameb the_type s Waiting) ≡ waiting_bit s
bit_is Idle = refl
bit_is Waiting = refl
bit_is Holding = refl
bit_is Resting = refl

-- the bit of the next panel put into the word of the panels before it
pub word_next : (panels : List PanelRecord) (v word bit : ℕ) (d : PanelRecord) → v < length panels → length panels ≤ 32
    → word ≡ waiting_word (map panel_of (take v panels)) → bit ≡ waiting_bit (get_or panels v d).state
    → bit_or word (bit * 2 ^ v % 4294967296) ≡ waiting_word (map panel_of (take (v + 1) panels))
word_next panels v word bit d within few so is =
    let before = map panel_of (take v panels) in
    let here : Panel = panel_of (get_or panels v d) in
    let upto : length before ≡ v = length-map (take v panels) panel_of ∙ length-take-le v panels (omega arith) in
    let small : bit ≤ 1 = (let s = bit_small here.state in omega (arith, s, is)) in
    let under : waiting_word before < 2 ^ length before = (word_of_waiting before).fits in
    let below : word < 2 ^ v = (let e = ap (λ n. 2 ^ n) upto in omega (arith, under, e, so)) in
    let all : map panel_of (take (v + 1) panels) ≡ before ++ here ∷ [] = ap (map panel_of) (take_more panels v d within) ∙ map-append panel_of (take v panels) (get_or panels v d ∷ []) in
    let word_is : waiting_word (before ++ here ∷ []) ≡ waiting_bit here.state * 2 ^ length before + waiting_word before = word_more before here in
    bit_in bit v word small (omega arith) below
    ∙ ap (λ b. b * 2 ^ v + word) is
    ∙ ap (λ n. waiting_bit here.state * 2 ^ n + word) (sym upto)
    ∙ ap (λ n. waiting_bit here.state * 2 ^ length before + n) so
    ∙ sym word_is
    ∙ sym (ap waiting_word all)
