-- The laws, put together from the facts. Assumes nothing.
use Rattle.std.proofs.Common.{◌≡◌, ℕ, ◌+◌, true, ◌≢◌, List, inl, inr, arith}
use Rattle.std.proofs.lemmas.Bool.{cases_eq}
use Rattle.tree.specs.Tree.{lawful_tree, distance, first_step, neighbours}
use Rattle.tree.specs.Laws.{DistanceLaw, NearerLaw, OnlyPathLaw, LaneLaw}
use Rattle.tree.proofs.Facts.{distance_symmetric, distance_from_equal, equal_from_distance, distance_below, first_step_neighbour, first_step_nearer, other_neighbour_farther, lane_ends_neighbours, lane_of_ends, lane_between_below, lane_between_source, lane_between_target}
use Rattle.tree.proofs.Paths.{path_cables, path_exists}

pub distance_law : DistanceLaw
distance_law ps lawful a b ha hb =
    record {
      symmetric = distance_symmetric ps lawful a b;
      zero_if_equal = distance_from_equal ps lawful a b;
      equal_if_zero = equal_from_distance ps lawful a b;
      at_most = omega (arith, distance_below ps lawful a b ha hb);
    }

others : (ps : List ℕ) → lawful_tree ps ≡ true → (u a x : ℕ) → neighbours ps u x ≡ true → x ≢ first_step ps u a → distance ps x a ≡ distance ps u a + 1
others ps lawful u a x t n =
    omega (arith, other_neighbour_farther ps lawful u a x t n, distance_symmetric ps lawful u a, distance_symmetric ps lawful x a)

pub nearer_law : NearerLaw
nearer_law ps lawful u a hu ha n =
    record {
      neighbour = first_step_neighbour ps lawful u a hu ha n;
      by_one =
          omega (arith, first_step_nearer ps lawful u a n, distance_symmetric ps lawful u a, distance_symmetric ps lawful (first_step ps u a) a);
      no_other = λ x t l. elim (cases_eq x (first_step ps u a)) [ inl e ↦ e | inr m ↦ omega (arith, others ps lawful u a x t m) ];
      others = others ps lawful u a;
    }

pub only_path_law : OnlyPathLaw
only_path_law ps lawful a b ha hb = (path_cables ps lawful a b, path_exists ps lawful a b ha hb)

pub lane_law : LaneLaw
lane_law ps lawful = (
  (λ k h. record { along = lane_ends_neighbours ps lawful k h; only = lane_of_ends ps lawful k h }),
  λ w u t.
      record {
        numbered = lane_between_below ps lawful w u t;
        source = lane_between_source ps lawful w u t;
        target = lane_between_target ps lawful w u t;
      },
)
