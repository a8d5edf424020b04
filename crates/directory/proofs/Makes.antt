-- There is an opening directory, and each move can be made where its premises hold: the directories, written out.
-- Assumes nothing.
use Rattle.std.proofs.Common.{◌≡◌, ℕ, refl, ◌∙◌, arith}
use Rattle.directory.specs.Directory.{Directory, Place, idle, flying, after, front, Requests, Passes, Lands, HandsOn, LandsAtRest, Opening}
use Rattle.directory.proofs.Updates.{put, put_becomes}

-- the opening directory of a tree
abbrev pub opening_made : (ℕ → ℕ) → Directory
opening_made parent = record { arrow = put parent 0 0; place = put (λ _. idle) 0 front }

pub makes_opening : (parent : ℕ → ℕ) → Opening parent (opening_made parent)
makes_opening parent = record {
  root = (put_becomes parent 0 0).there;
  arrows = λ v 0<v. (put_becomes parent 0 0).elsewhere v (omega arith);
  book = (put_becomes (λ _. idle) 0 front).there;
  others = λ v 0<v. (put_becomes (λ _. idle) 0 front).elsewhere v (omega arith);
}

-- p, but idle at v, and then front at f
abbrev pub hand_over : (ℕ → Place) → ℕ → ℕ → ℕ → Place
hand_over p v f = put (put p v idle) f front

hand_over_leaves : (p : ℕ → Place) (v f : ℕ) → ¬ (v ≡ f) → hand_over p v f v ≡ idle
hand_over_leaves p v f n = (put_becomes (put p v idle) f front).elsewhere v n ∙ (put_becomes p v idle).there

hand_over_others : (p : ℕ → Place) (v f b : ℕ) → ¬ (b ≡ v) → ¬ (b ≡ f) → hand_over p v f b ≡ p b
hand_over_others p v f b n n' = (put_becomes (put p v idle) f front).elsewhere b n' ∙ (put_becomes p v idle).elsewhere b n

module _ (d : Directory) where
  abbrev pub request_made : ℕ → Directory
  request_made v = record { arrow = put d.arrow v v; place = put d.place v (flying v (d.arrow v)) }

  pub makes_request : (v : ℕ) → d.place v ≡ idle → Requests v d (request_made v)
  makes_request v e = record {
    was_idle = e;
    turns = put_becomes d.arrow v v;
    moves = put_becomes d.place v (flying v (d.arrow v));
  }

  abbrev pub pass_made : ℕ → ℕ → ℕ → Directory
  pass_made a w u = record { arrow = put d.arrow u w; place = put d.place a (flying u (d.arrow u)) }

  pub makes_pass : (a w u : ℕ) → d.place a ≡ flying w u → ¬ (d.arrow u ≡ u) → Passes a w u d (pass_made a w u)
  makes_pass a w u e n = record {
    comes = e;
    goes_on = n;
    turns = put_becomes d.arrow u w;
    moves = put_becomes d.place a (flying u (d.arrow u));
  }

  abbrev pub land_made : ℕ → ℕ → ℕ → Directory
  land_made a w u = record { arrow = put d.arrow u w; place = put d.place a (after u) }

  pub makes_land : (a w u : ℕ) → d.place a ≡ flying w u → d.arrow u ≡ u → Lands a w u d (land_made a w u)
  makes_land a w u e self = record {
    comes = e;
    ends = self;
    turns = put_becomes d.arrow u w;
    moves = put_becomes d.place a (after u);
  }

  abbrev pub hand_on_made : ℕ → ℕ → Directory
  hand_on_made v f = record { arrow = d.arrow; place = hand_over d.place v f }

  pub makes_hand_on : (v f : ℕ) → d.place v ≡ front → d.place f ≡ after v → HandsOn v f d (hand_on_made v f)
  makes_hand_on v f p q = record {
    was_front = p;
    follows = q;
    arrows = λ _. refl;
    leaves = hand_over_leaves d.place v f (λ e. search arith);
    gets = (put_becomes (put d.place v idle) f front).there;
    others = hand_over_others d.place v f;
  }

  abbrev pub land_at_rest_made : ℕ → ℕ → ℕ → Directory
  land_at_rest_made a w u = record { arrow = put d.arrow u w; place = hand_over d.place u a }

  pub makes_land_at_rest : (a w u : ℕ) → d.place a ≡ flying w u → d.arrow u ≡ u → d.place u ≡ front
      → LandsAtRest a w u d (land_at_rest_made a w u)
  makes_land_at_rest a w u e self p = record {
    comes = e;
    ends = self;
    was_front = p;
    turns = put_becomes d.arrow u w;
    leaves = hand_over_leaves d.place u a (λ c. search arith);
    gets = (put_becomes (put d.place u idle) a front).there;
    others = hand_over_others d.place u a;
  }
