-- The opening directory keeps the laws: every arrow points to a smaller number, so every way comes to panel 0 (by induction
-- on a number above the panel's). Assumes nothing.
use Rattle.std.proofs.Common.{◌≡◌, ℕ, zero, suc, ◌<◌, sym, refl, ap, subst, arith}
use native.Mathlib.Decide.{ℕ_discrete}
use Rattle.directory.specs.Directory.{Directory, Tree, Opening}
use Rattle.directory.specs.Paths.{here, on}
use Rattle.directory.specs.Queue.{find_at, Behind, Sound}
use Rattle.directory.proofs.Queued.{Queued, sound_from}
use Rattle.directory.proofs.Steps.{to_request, to_find}
use Rattle.directory.proofs.Updates.{at_or_else}
use Rattle.directory.proofs.Ways.{from}

module _ {parent : ℕ → ℕ} {d : Directory} (tree : Tree parent) (o : Opening parent d) where
  home_below : (n v : ℕ) → v < n → Behind d v 0
  home_below zero v l = absurd (omega arith)
  home_below (suc n) v l = elim (ℕ_discrete v 0) [
    | yes e ↦ from (ap find_at e) (on (to_request d 0 o.root) (here refl))
    | no v≢0 ↦ (
        let 0<v : 0 < v = omega arith in
        let up : d.arrow v ≡ parent v = o.arrows v 0<v in
        let lower : parent v < v = tree v 0<v in
        on (to_find d v (omega arith)) (home_below n (d.arrow v) (omega arith)))
  ]

  pub opening_sound : Sound d
  opening_sound =
      let home : (v : ℕ) → Behind d v 0 = λ v. home_below (suc v) v (omega arith) in
      sound_from d
      (at_or_else (λ a. Queued d a (d.place a)) 0
      (subst (Queued d 0) (sym o.book) (home 0))
      (λ a n. subst (Queued d a) (sym (o.others a (omega arith))) tt))
      0 o.book home
