-- What a call on an open group does: it is refused by a refusal that is listed for it, and the world is as it was; or it answers an
-- event, and the world left is that of an open group again. The statement, and what its proofs share. Assumes nothing.
use Rattle.std.proofs.Common.{◌≡◌, ℕ, ◌+◌, ◌<◌, ◌≤◌, true, false, not, List, [], ◌++◌, length, set, Ok, Err, Result, sym, refl, ap, ◌∙◌, subst, arith}
use Rattle.std.proofs.lemmas.List.{length-set, append-nil}
use Rattle.std.proofs.lemmas.Bool.{true≢false}
use Rattle.carrier.specs.Parcels.{Parcel, waiting, longest_body}
use Rattle.tree.specs.Tree.{lawful_tree, lane_count}
use Rattle.tree.proofs.Facts.{few_panels}
use Rattle.words.specs.declared.event.Event.{Event}
use Rattle.words.specs.declared.refusal.Refusal.{Refusal}
use Rattle.arrow.specs.declared.state.State.{State}
use Rattle.arrow.specs.declared.state.State.TheVariants.{Idle, Waiting, Holding, Resting}
use Rattle.arrow.specs.World.{Panel, World, panel_at}
use Rattle.arrow.specs.Rules.{Outcome, refuse, has_book, holds}
use Rattle.arrow.specs.Runs.{Call}
use Rattle.arrow.specs.Clauses.{landed_distance, written_before}
use Rattle.arrow.specs.Facts.{Listed}
use Rattle.arrow.proofs.Coupling.{Coupled, Opened}
use Rattle.arrow.proofs.Heads.{named}
use Rattle.arrow.proofs.Staying.{holder_page}

-- after a run whose landed distances and accepted writes are these, the call does so
unfoldable pub Answers : ℕ → List ℕ → World → Call → Result Event Refusal → World → Type 0
Answers landed written w call (Err e) w' = Listed call e × (w' ≡ w)
Answers landed written w call (Ok event) w' =
    (w'.tree ≡ w.tree) × Opened (landed + landed_distance w'.tree (Ok event)) (written ++ written_before (Ok event) []) w'

abbrev pub Does : ℕ → List ℕ → World → Call → Outcome → Type 0
Does landed written w call o = Answers landed written w call o.0 o.1

pub refused : (landed : ℕ) (written : List ℕ) (w : World) (call : Call) (e : Refusal) → Listed call e → Does landed written w call (refuse w e)
unfolding Answers
refused landed written w call e listed = (listed, refl)

-- an event that is neither a landing nor a write
pub accepted : (landed : ℕ) (written : List ℕ) (w w' : World) (call : Call) (event : Event) → w'.tree ≡ w.tree
    → landed_distance w'.tree (Ok event) ≡ 0 → written_before (Ok event) [] ≡ [] → Opened landed written w' → Does landed written w call (Ok event, w')
unfolding Answers
accepted landed written w w' call event same_tree none_landed none_written o =
    let same : landed ≡ landed + landed_distance w'.tree (Ok event) = omega arith in (
      same_tree,
      subst (λ l. Opened l (written ++ written_before (Ok event) []) w') same
          (subst (λ ws. Opened landed ws w') (sym (ap (λ ws. written ++ ws) none_written ∙ append-nil written)) o),
    )

pub few_named : (ps : List ℕ) → lawful_tree ps ≡ true → (a : ℕ) → a < length ps → a < named
few_named ps lawful a l = omega (arith, few_panels ps lawful)

-- a panel that holds
pub holding : (s : State) → not (holds s) ≡ false → s ≡ Holding
holding Idle e = absurd (true≢false e)
holding Waiting e = absurd (true≢false e)
holding Holding e = refl
holding Resting e = absurd (true≢false e)

module _ (landed : ℕ) (written : List ℕ) (w : World) (o : Opened landed written w) where
  abbrev x : Coupled w.tree w.kind (panel_at w) (waiting w.lanes) w.counts landed written
  x = o.coupled

  pub there : (v : ℕ) → v < length w.tree → v < length w.panels
  there v l = omega (arith, o.panels)

  pub still_panels : (v : ℕ) (p : Panel) → length (set w.panels v p) ≡ length w.tree
  still_panels v p = length-set w.panels v p ∙ o.panels

  pub still_lanes : (k : ℕ) (ps : List Parcel) → lane_count w.tree ≤ length (set w.lanes k ps)
  still_lanes k ps = omega (arith, length-set w.lanes k ps, o.lanes)

  -- the row of a panel with the book fits a parcel
  pub row_short : (v : ℕ) → has_book (panel_at w v).state ≡ true → length (panel_at w v).row ≤ longest_body
  row_short v t =
      let wide = ap length (holder_page o.tree x v t) ∙ o.kind.long x.page x.book.lawful in
      omega (arith, o.kind.narrow)
