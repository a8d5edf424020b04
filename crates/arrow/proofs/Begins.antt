-- Where a group opens: every arrow points to the parent, panel 0 rests with the opening row, and nothing waits. Assumes nothing.
use Rattle.std.proofs.Common.{◌≡◌, ℕ, zero, suc, ◌<◌, ◌≤◌, true, false, List, [], ◌∷◌, map, length, get_or, replicate, Some, None, sym, refl, ap, ◌∙◌, subst, inl, inr, arith}
use Rattle.std.proofs.lemmas.List.{get_or_past, get_or-map, length-map}
use Rattle.std.proofs.lemmas.Bool.{true≢false, cases_lt}
use Rattle.book.specs.Kinds.{Book, Sound as SoundKind}
use Rattle.carrier.specs.Parcels.{Lanes, waiting, any_waits}
use Rattle.directory.specs.Directory.{Directory, Place, idle, after, front, Opening}
use Rattle.directory.proofs.Makes.{opening_made, makes_opening}
use Rattle.directory.proofs.Opening.{opening_sound}
use Rattle.directory.proofs.Updates.{at_or_else}
use Rattle.directory.proofs.Wiring.{opening_wired}
use Rattle.tree.specs.Tree.{lawful_tree, parent, lane_count}
use Rattle.tree.proofs.Facts.{some_panel, parent_below}
use Rattle.tree.proofs.Neighbours.{neighbours_made}
use Rattle.arrow.specs.declared.state.State.{State}
use Rattle.arrow.specs.declared.state.State.TheVariants.{Idle, Resting}
use Rattle.arrow.specs.World.{Panel, World, panel_at, new_world}
use Rattle.arrow.specs.Rules.{has_book, idle_panel, opened_world}
use Rattle.arrow.proofs.Changes.{total_zero}
use Rattle.arrow.proofs.Coupling.{Aimed, Fits, Plain, Opened, busy, waits, flown, unflown, owed}

-- on a carrier on which nothing waits, every lane is empty
pub none_waits : (lanes : Lanes) → any_waits lanes ≡ false → (k : ℕ) → waiting lanes k ≡ []
none_waits [] e k = refl
none_waits ([] ∷ lanes) e zero = refl
none_waits ([] ∷ lanes) e (suc k) = none_waits lanes e k
none_waits ((parcel ∷ parcels) ∷ lanes) e k = absurd (true≢false e)

-- a panel other than 0 when the group opens
pub record IdlePanel (w : World) (ps : List ℕ) (v : ℕ) (p : Panel) : Type 0 where
  pub arrow_is : p.arrow ≡ parent ps v
  pub state_is : p.state ≡ Idle
  pub follower_is : p.follower ≡ None
  pub row_is : v < length ps → p.row ≡ replicate w.kind.width 0

idle_there : (w : World) (ps : List ℕ) (v : ℕ) → 0 < v → IdlePanel w ps v (panel_at (opened_world w ps) v)
idle_there w [] v l = record { arrow_is = refl; state_is = refl; follower_is = refl; row_is = λ h. absurd (omega arith) }
idle_there w (root ∷ parents) zero l = absurd (omega arith)
idle_there w (root ∷ parents) (suc j) l = elim (cases_lt j (length parents)) [
  | inl h ↦ (
      let e : panel_at (opened_world w (root ∷ parents)) (suc j) ≡ idle_panel w (get_or parents j 0) = get_or-map (idle_panel w) parents j 0 _ h in
      rw e (record { arrow_is = refl; state_is = refl; follower_is = refl; row_is = λ _. refl }))
  | inr h ↦ (
      let past : length (map (idle_panel w) parents) ≤ j = omega (arith, length-map parents (idle_panel w)) in
      let e = get_or_past (map (idle_panel w) parents) j (record { arrow = 0; state = Idle; follower = None; row = [] }) past in
      rw e (record {
        arrow_is = sym (get_or_past parents j 0 h);
        state_is = refl;
        follower_is = refl;
        row_is = λ l'. absurd (omega arith);
      }))
]

record FirstPanel (w : World) (p : Panel) : Type 0 where
  arrow_is : p.arrow ≡ 0
  state_is : p.state ≡ Resting
  follower_is : p.follower ≡ None
  row_is : p.row ≡ w.kind.opening

first_there : (w : World) (ps : List ℕ) → 0 < length ps → FirstPanel w (panel_at (opened_world w ps) 0)
first_there w [] l = absurd (omega arith)
first_there w (root ∷ parents) l = record { arrow_is = refl; state_is = refl; follower_is = refl; row_is = refl }

pub opening_length : (w : World) (ps : List ℕ) → length (opened_world w ps).panels ≡ length ps
opening_length w [] = refl
opening_length w (root ∷ parents) = ap suc (length-map parents (idle_panel w))

-- no place of the opening directory is a find's or a follower's
calm : {parent : ℕ → ℕ} {d : Directory} → Opening parent d → (q : Place) → ¬ (q ≡ idle) → ¬ (q ≡ front) → (a : ℕ) → ¬ (d.place a ≡ q)
calm {parent} {d} o q n n' =
    at_or_else (λ a. ¬ (d.place a ≡ q)) 0 (λ e. n' (sym e ∙ o.book)) (λ a a≢0 e. n (sym e ∙ o.others a (omega arith)))

pub opens_open : (kind : Book) (lanes : Lanes) (ps : List ℕ) → SoundKind kind → lawful_tree ps ≡ true
    → lane_count ps ≤ length lanes → any_waits lanes ≡ false → Opened 0 [] (opened_world (new_world kind lanes) ps)
opens_open kind lanes ps kind_sound lawful enough empty = record {
  tree = lawful;
  kind = kind_sound;
  panels = opening_length w ps;
  lanes = enough;
  coupled = record {
    d = d;
    finder = λ _. None;
    home = 0;
    carried = None;
    page = kind.opening;
    queue = record {
      sound = opening_sound (parent_below ps lawful) o;
      wired = opening_wired (some_panel ps lawful) (λ v p l. neighbours_made ps v (parent ps v) (inl (p, l, refl))) o;
      aimed = at_or_else (λ a. Aimed ps a (d.place a)) 0 (subst (Aimed ps 0) (sym o.book) tt) (λ a n. subst (Aimed ps a) (sym (o.others a (omega arith))) tt);
      home_front = o.book;
    };
    panels = record {
      arrows = at_or_else (λ v. (panel v).arrow ≡ d.arrow v) 0 (first.arrow_is ∙ sym o.root)
          (λ v n. (idles v n).arrow_is ∙ sym (o.arrows v (omega arith)));
      fits = at_or_else (λ v. Fits None (d.place v) (panel v).state) 0 (ap has_book first.state_is)
          (λ v n. subst (λ q. Fits None q (panel v).state) (sym (o.others v (omega arith))) (idles v n).state_is);
      plain = at_or_else (λ v. v < length ps → Plain kind.width (panel v)) 0
          (λ _. record { alone = λ _. first.follower_is; bare = λ e. absurd (true≢false (rw first.state_is at e)) })
          (λ v n l. record { alone = λ _. (idles v n).follower_is; bare = λ _. (idles v n).row_is l });
      followers = record {
        to = λ k a l e. absurd (at_or_else (λ v. ¬ ((panel v).follower ≡ Some a)) 0 (λ i. (let f = first.follower_is in search arith))
            (λ v n i. (let f = (idles v n).follower_is in search arith)) k e);
        from = λ k a l e. absurd (calm o (after k) (λ i. search arith) (λ i. search arith) a e);
      };
    };
    lanes = record {
      finders = record {
        to = λ k a l e. search arith;
        from = λ k a l e. absurd (calm o _ (λ i. search arith) (λ i. search arith) a e);
      };
      parcels = λ k l. none_waits lanes empty k;
    };
    book = record { kept = λ _. first.row_is; on_lane = λ k e. search arith; lawful = kind_sound.opens; made = refl };
    tally = (
        let b = total_zero (λ v. busy v (panel v).state) n (λ j _. state_zero busy refl (λ _. refl) j) in
        let s = total_zero (λ v. waits v (panel v).state) n (λ j _. state_zero waits refl (λ _. refl) j) in
        let f = total_zero (λ a. flown ps a (d.place a)) n (λ j _. place_zero (flown ps) (λ _. refl) (λ _. refl) j) in
        let u = total_zero (λ a. unflown ps a (d.place a)) n (λ j _. place_zero (unflown ps) (λ _. refl) (λ _. refl) j) in
        let r = total_zero (λ a. owed a (d.place a)) n (λ j _. place_zero owed (λ _. refl) (λ _. refl) j) in
        omega arith);
  };
}
  where
    w : World
    w = new_world kind lanes

    n : ℕ
    n = length ps

    panel : ℕ → Panel
    panel = panel_at (opened_world w ps)

    d : Directory
    d = opening_made (parent ps)

    o : Opening (parent ps) d
    o = makes_opening (parent ps)

    first : FirstPanel w (panel 0)
    first = first_there w ps (some_panel ps lawful)

    idles : (v : ℕ) → ¬ (v ≡ 0) → IdlePanel w ps v (panel v)
    idles v n = idle_there w ps v (omega arith)

    state_zero : (h : ℕ → State → ℕ) → h 0 Resting ≡ 0 → ((v : ℕ) → h v Idle ≡ 0) → (v : ℕ) → h v (panel v).state ≡ 0
    state_zero h r i = at_or_else (λ v. h v (panel v).state ≡ 0) 0 (ap (h 0) first.state_is ∙ r) (λ v n. ap (h v) (idles v n).state_is ∙ i v)

    place_zero : (h : ℕ → Place → ℕ) → ((v : ℕ) → h v front ≡ 0) → ((v : ℕ) → h v idle ≡ 0) → (v : ℕ) → h v (d.place v) ≡ 0
    place_zero h f i = at_or_else (λ v. h v (d.place v) ≡ 0) 0 (ap (h 0) o.book ∙ f 0) (λ v n. ap (h v) (o.others v (omega arith)) ∙ i v)
