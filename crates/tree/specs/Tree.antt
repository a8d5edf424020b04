-- The cable tree of a lift group, as its list of parents: entry v is the parent of panel v.
-- Assumes nothing. Every definition is for any list and any numbers; `lawful_tree` says which lists are trees.
use Rattle.std.specs.Prelude.{ℕ, zero, suc, ◌+◌, ◌-◌, ◌*◌, ◌/◌, ◌%◌, Bool, true, false, cond, ◌&&◌, ◌||◌, List, [], ◌∷◌, length, ◌==◌, nat_le, nat_lt, slice_index}
use Prim.Native.Nat.{Ordering}
use Prim.Native.Nat.{compare}

-- the most panels that a group has
abbrev pub most_panels : ℕ
most_panels = 32

-- the parent of panel v; 0 for panel 0, and for a number past the last panel
abbrev pub parent : List ℕ → ℕ → ℕ
parent ps v = slice_index ps v

-- panel v exists
abbrev pub exists : List ℕ → ℕ → Bool
exists ps v = nat_lt v (length ps)

-- each entry is below its own place, the first entry standing at place i
unfoldable pub below_place : ℕ → List ℕ → Bool
below_place i [] = true
below_place i (p ∷ ps) = nat_lt p i && below_place (suc i) ps

-- a tree has 1 to 32 entries, entry 0 is 0, and entry i is below i for each i from 1
unfoldable pub lawful_tree : List ℕ → Bool
unfolding below_place
lawful_tree [] = false
lawful_tree (root ∷ rest) = root == 0 && (below_place 1 rest && nat_le (suc (length rest)) most_panels)

-- the larger of a and b climbs to its parent, one cable, until they meet; at most `limit` times
unfoldable pub climbs : ℕ → List ℕ → ℕ → ℕ → ℕ
climbs zero ps a b = 0
climbs (suc limit) ps a b =
    elim (compare a b)
    [ Ordering.lt ↦ suc (climbs limit ps a (parent ps b)) | Ordering.eq ↦ 0 | Ordering.gt ↦ suc (climbs limit ps (parent ps a) b) ]

-- the number of cables on the path between a and b; each climb lowers a + b, so a + b climbs are enough
unfoldable pub distance : List ℕ → ℕ → ℕ → ℕ
unfolding climbs
distance ps a b = climbs (a + b) ps a b

-- one step from u towards a: where u is the larger, no way down from u leads to a, so the step is up; where u is a's parent,
-- it is down to a; else it is the step towards a's parent, which the path passes; at most `limit` times
unfoldable pub steps_towards : ℕ → List ℕ → ℕ → ℕ → ℕ
steps_towards zero ps u a = u
steps_towards (suc limit) ps u a =
    elim (compare u a) [
      | Ordering.lt ↦ elim (parent ps a == u) [ true ↦ a | false ↦ steps_towards limit ps u (parent ps a) ]
      | Ordering.eq ↦ u
      | Ordering.gt ↦ parent ps u
    ]

-- the neighbour of u on the path to a, or u where a is u
unfoldable pub first_step : List ℕ → ℕ → ℕ → ℕ
unfolding steps_towards
first_step ps u a = steps_towards (u + a) ps u a

-- a cable joins panel c, one from 1 on, to its parent p
unfoldable pub child : List ℕ → ℕ → ℕ → Bool
child ps c p = nat_lt 0 c && (exists ps c && parent ps c == p)

-- a cable joins u and v
unfoldable pub neighbours : List ℕ → ℕ → ℕ → Bool
unfolding child
neighbours ps u v = child ps u v || child ps v u

-- a lane is one direction of a cable; a tree of n panels has n - 1 cables
abbrev pub lane_count : List ℕ → ℕ
lane_count ps = 2 * (length ps - 1)

-- the lane from panel i, one from 1 on, to its parent
abbrev pub up_lane : ℕ → ℕ
up_lane i = 2 * (i - 1)

-- the lane back, from the parent of panel i to i
abbrev pub down_lane : ℕ → ℕ
down_lane i = 2 * (i - 1) + 1

-- the child at the lower end of the cable of lane k
abbrev pub lane_child : ℕ → ℕ
lane_child k = k / 2 + 1

-- the panel that lane k comes from: even lanes run up, odd ones down
unfoldable pub lane_source : List ℕ → ℕ → ℕ
lane_source ps k = cond (k % 2 == 0) (lane_child k) (parent ps (lane_child k))

-- the panel that lane k goes to
unfoldable pub lane_target : List ℕ → ℕ → ℕ
lane_target ps k = cond (k % 2 == 0) (parent ps (lane_child k)) (lane_child k)

-- the lane from w to its neighbour u
unfoldable pub lane_between : List ℕ → ℕ → ℕ → ℕ
unfolding child
lane_between ps w u = cond (child ps w u) (up_lane w) (down_lane u)
