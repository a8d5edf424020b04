-- The moves of the directory keep the queue: its laws, its cables, and that a find comes from the first step back to its asker.
-- Also how far a find has come. Assumes nothing.
use Rattle.std.proofs.Common.{◌≡◌, ℕ, ◌+◌, ◌<◌, true, List, length, sym, ◌∙◌, subst, arith}
use Rattle.directory.specs.Cables.{Cabling}
use Rattle.directory.specs.Directory.{Directory, idle, flying, front, Requests, Passes, Lands, HandsOn, LandsAtRest}
use Rattle.directory.proofs.Facts.{idle_arrow, no_arrow_back, front_is_home}
use Rattle.directory.proofs.Moves.{request_sound, pass_sound, land_sound, hand_on_sound, land_at_rest_sound}
use Rattle.directory.proofs.Updates.{changed, changed_twice}
use Rattle.directory.proofs.Wiring.{request_wired, pass_wired, land_wired, hand_on_wired, land_at_rest_wired}
use Rattle.tree.specs.Tree.{lawful_tree, neighbours, distance, first_step}
use Rattle.tree.proofs.Facts.{neighbours_symmetric, neighbours_exist, first_step_to_neighbour, first_step_back, other_neighbour_farther}
use Rattle.arrow.proofs.Coupling.{Joined, Aimed, Queue}

module _ (ps : List ℕ) (lawful : lawful_tree ps ≡ true) where
  cabling : Cabling (length ps) (Joined ps)
  cabling = record { within = neighbours_exist ps lawful; back = neighbours_symmetric ps }

  module _ {home : ℕ} {d : Directory} (q : Queue ps home d) where
    -- the panel in front is the only one
    pub front_home : (v : ℕ) → d.place v ≡ front → v ≡ home
    front_home v e = front_is_home q.sound v e ∙ sym (front_is_home q.sound home q.home_front)

    pub home_exists : home < length ps
    home_exists = q.wired.requests home (λ i. (let f = q.home_front in search arith))

    -- a find's asker and both ends of its lane exist
    pub find_panels : (a w u : ℕ) → d.place a ≡ flying w u → (a < length ps) × (w < length ps) × (u < length ps)
    find_panels a w u e =
        let ends = neighbours_exist ps lawful w u (q.wired.finds a w u e) in
        (q.wired.requests a (λ i. search arith), ends.0, ends.1)

    pub find_aimed : (a w u : ℕ) → d.place a ≡ flying w u → first_step ps u a ≡ w
    find_aimed a w u e = subst (Aimed ps a) e (q.aimed a)

    -- the arrow of an idle panel, and of any panel that it does not point to itself, is along a cable
    pub idle_cable : (v : ℕ) → v < length ps → d.place v ≡ idle → neighbours ps v (d.arrow v) ≡ true
    idle_cable v v<n e = q.wired.arrows v v<n (idle_arrow q.sound v e)

    -- where a find that passes goes on, it comes from the first step back to its asker, and is one cable farther
    pub goes_back : (a w u : ℕ) → d.place a ≡ flying w u → ¬ (d.arrow u ≡ u) → ¬ (d.arrow u ≡ first_step ps u a)
    goes_back a w u e n c = no_arrow_back q.sound a w u e (c ∙ find_aimed a w u e)

    pub pass_cable : (a w u : ℕ) → d.place a ≡ flying w u → ¬ (d.arrow u ≡ u) → neighbours ps u (d.arrow u) ≡ true
    pass_cable a w u e n = q.wired.arrows u (find_panels a w u e).2 n

    pub pass_aimed : (a w u : ℕ) → d.place a ≡ flying w u → ¬ (d.arrow u ≡ u) → first_step ps (d.arrow u) a ≡ u
    pass_aimed a w u e n = first_step_back ps lawful u a (d.arrow u) (pass_cable a w u e n) (goes_back a w u e n)

    pub pass_farther : (a w u : ℕ) → d.place a ≡ flying w u → ¬ (d.arrow u ≡ u) → distance ps a (d.arrow u) ≡ distance ps a u + 1
    pass_farther a w u e n = other_neighbour_farther ps lawful u a (d.arrow u) (pass_cable a w u e n) (goes_back a w u e n)

    -- every move keeps the queue
    pub queue_request : {d' : Directory} {v : ℕ} → v < length ps → Requests v d d' → Queue ps home d'
    queue_request {d'} {v} v<n m = record {
      sound = request_sound q.sound m;
      wired = request_wired cabling q.sound v<n q.wired m;
      aimed = changed (Aimed ps) m.moves (first_step_to_neighbour ps lawful v (d.arrow v) (idle_cable v v<n m.was_idle)) (λ a _. q.aimed a);
      home_front = m.moves.elsewhere home (λ e. (let f = q.home_front in let i = m.was_idle in search arith)) ∙ q.home_front;
    }

    pub queue_pass : {d' : Directory} {a w u : ℕ} → Passes a w u d d' → Queue ps home d'
    queue_pass {d'} {a} {w} {u} m = record {
      sound = pass_sound q.sound m;
      wired = pass_wired cabling q.wired m;
      aimed = changed (Aimed ps) m.moves (pass_aimed a w u m.comes m.goes_on) (λ b _. q.aimed b);
      home_front = m.moves.elsewhere home (λ e. (let f = q.home_front in let i = m.comes in search arith)) ∙ q.home_front;
    }

    pub queue_land : {d' : Directory} {a w u : ℕ} → Lands a w u d d' → Queue ps home d'
    queue_land {d'} {a} {w} {u} m = record {
      sound = land_sound q.sound m;
      wired = land_wired cabling q.wired m;
      aimed = changed (Aimed ps) m.moves tt (λ b _. q.aimed b);
      home_front = m.moves.elsewhere home (λ e. (let f = q.home_front in let i = m.comes in search arith)) ∙ q.home_front;
    }

    pub queue_hand_on : {d' : Directory} {v f : ℕ} → HandsOn v f d d' → Queue ps f d'
    queue_hand_on {d'} {v} {f} m = record {
      sound = hand_on_sound q.sound m;
      wired = hand_on_wired cabling q.wired m;
      aimed = changed_twice d.place d'.place v f (Aimed ps) m.leaves m.gets m.others tt tt (λ b _ _. q.aimed b);
      home_front = m.gets;
    }

    pub queue_land_at_rest : {d' : Directory} {a w u : ℕ} → LandsAtRest a w u d d' → Queue ps a d'
    queue_land_at_rest {d'} {a} {w} {u} m = record {
      sound = land_at_rest_sound q.sound m;
      wired = land_at_rest_wired cabling q.wired m;
      aimed = changed_twice d.place d'.place u a (Aimed ps) m.leaves m.gets m.others tt tt (λ b _ _. q.aimed b);
      home_front = m.gets;
    }
