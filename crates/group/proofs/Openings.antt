-- The panels of a group that was just opened. Assumes nothing.
use Rattle.std.proofs.Common.{◌≡◌, ℕ, ◌+◌, ◌<◌, List, [], ◌∷◌, ◌++◌, map, length, get_or, take, set, replicate, None, sym, ap, ◌∙◌, arith}
use Rattle.std.proofs.lemmas.List.{take_more, take_more_set, map-append}
use Rattle.arrow.specs.declared.state.State.TheVariants.{Resting}
use Rattle.arrow.specs.World.{Panel, World}
use Rattle.arrow.specs.Rules.{first_panel, opening_panels}
use Rattle.panel.specs.declared.record.Panel.{Panel as PanelRecord}
use Rattle.group.specs.Parts.{idle_with}
use Rattle.panel.specs.Steps.{panel_of}

-- one panel more
pub idle_more : (row : List ℕ) (panels : List PanelRecord) (ps : List ℕ) (v : ℕ) (p : PanelRecord) → v < length panels → v < length ps
    → map panel_of (take v panels) ≡ map (idle_with row) (take v ps) → panel_of p ≡ idle_with row (get_or ps v 0)
    → map panel_of (take (v + 1) (set panels v p)) ≡ map (idle_with row) (take (v + 1) ps)
idle_more row panels ps v p within within' same is =
    ap (map panel_of) (take_more_set panels v p within)
    ∙ map-append panel_of (take v panels) (p ∷ [])
    ∙ ap (λ (l : List Panel). l ++ panel_of p ∷ []) same
    ∙ ap (λ (q : Panel). map (idle_with row) (take v ps) ++ q ∷ []) is
    ∙ sym (map-append (idle_with row) (take v ps) (get_or ps v 0 ∷ []))
    ∙ sym (ap (map (idle_with row)) (take_more ps v 0 within'))

-- panel 0 rests with the opening row
pub opening_is : (w : World) (ps row zeros : List ℕ) → 0 < length ps → row ≡ w.kind.opening → zeros ≡ replicate w.kind.width 0
    → set (map (idle_with zeros) ps) 0 (record { arrow = 0; state = Resting; follower = None; row = row }) ≡ opening_panels w ps
opening_is w [] row zeros some e z = (let no : ⊥ = omega arith in absurd no)
opening_is w (root ∷ parents) row zeros some e z =
    ap (λ (r : List ℕ). record { arrow = 0; state = Resting; follower = None; row = r } ∷ map (idle_with zeros) parents) e
    ∙ ap (λ (r : List ℕ). first_panel w ∷ map (idle_with r) parents) z
