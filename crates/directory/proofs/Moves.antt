-- Every move of the directory keeps the laws of the queue: each is a surgery on the graph of the queue, which leaves all the
-- ways that the laws speak of. Assumes nothing.
use Rattle.std.proofs.Common.{◌≡◌, ℕ, sym, refl, ap, ◌∙◌, subst, arith}
use mathlib.Core.Option.{some}
use Rattle.directory.specs.Directory.{Directory, Place, flying, after, Becomes, Requests, Passes, Lands, HandsOn, LandsAtRest}
use Rattle.directory.specs.Paths.{here, on}
use Rattle.directory.specs.Queue.{find_at, request_of, from_place, next, Behind, Sound}
use Rattle.directory.proofs.Facts.{home_ends, front_is_home, idle_arrow, find_moves, find_away, behind_follower}
use Rattle.directory.proofs.Queued.{Queued, still_queued, sound_from}
use Rattle.directory.proofs.Steps.{same_vertex, to_request, to_find, agree}
use Rattle.directory.proofs.Surgery.{inserted, turned, handed_on}
use Rattle.directory.proofs.Updates.{changed, changed_twice, put, put_becomes}

-- a request puts the asker's request between the asker and its arrow
pub request_sound : {d d' : Directory} {v : ℕ} → Sound d → Requests v d d' → Sound d'
request_sound {d} {d'} {v} s m =
    sound_from d' all s.home (m.moves.elsewhere s.home home≢v ∙ s.home_front) (λ y. old y s.home (s.leads_home y))
  where
    home≢v : ¬ (s.home ≡ v)
    home≢v e = let f = s.home_front in let i = m.was_idle in search arith

    own : next d' (find_at v) ≡ some (request_of v)
    own = to_request d' v m.turns.there

    old : (y a : ℕ) → Behind d y a → Behind d' y a
    old y a =
        inserted same_vertex (to_find d v (idle_arrow s v m.was_idle)) (ap from_place m.was_idle) own (ap from_place m.moves.there)
        (λ z n n'. agree d d' z (λ c e. m.turns.elsewhere c (λ e'. n (e ∙ ap find_at e'))) (λ c e. m.moves.elsewhere c (λ e'. n' (e ∙ ap request_of e'))))

    all : (a : ℕ) → Queued d' a (d'.place a)
    all = changed (Queued d') m.moves (on own (here refl), on own (here refl)) (λ a _. still_queued s d' a (λ y. old y a))

-- a find of a that comes from w to u, to pass or to land, changes places with u: what comes to u comes behind it, and it waits
-- for what u led to. q is its new place
come_sound : {d d' : Directory} → Sound d → (a w u : ℕ) (q : Place) → d.place a ≡ flying w u
    → Becomes d.arrow u w d'.arrow → Becomes d.place a q d'.place → from_place q ≡ next d (find_at u)
    → (Behind d' a a → Behind d' u a → Queued d' a q) → Sound d'
come_sound {d} {d'} s a w u q comes turns moves goes queued =
    sound_from d' all s.home (moves.elsewhere s.home home≢a ∙ s.home_front) (λ y. old y s.home (s.leads_home y))
  where
    home≢a : ¬ (s.home ≡ a)
    home≢a e = let f = s.home_front in search arith

    back : next d' (find_at u) ≡ some (find_at w)
    back = to_find d' u (λ e. find_moves s a w u comes (sym turns.there ∙ e)) ∙ ap (λ x. some (find_at x)) turns.there

    old : (y b : ℕ) → Behind d y b → Behind d' y b
    old y b =
        turned same_vertex (home_ends s) (s.leads_home u) (ap from_place comes) refl (ap from_place moves.there ∙ goes) back (s.sent a w u comes)
        (λ z n n'. agree d d' z (λ c e. turns.elsewhere c (λ e'. n (e ∙ ap find_at e'))) (λ c e. moves.elsewhere c (λ e'. n' (e ∙ ap request_of e'))))
        (λ e. search arith)

    all : (b : ℕ) → Queued d' b (d'.place b)
    all = changed (Queued d') moves
        (queued (old a a (s.own a (λ i. search arith))) (on back (old w a (s.sent a w u comes))))
        (λ b _. still_queued s d' b (λ y. old y b))

pub pass_sound : {d d' : Directory} {a w u : ℕ} → Sound d → Passes a w u d d' → Sound d'
pass_sound {d} {d'} {a} {w} {u} s m =
    come_sound s a w u (flying u (d.arrow u)) m.comes m.turns m.moves (sym (to_find d u m.goes_on)) (λ own at_u. (own, at_u))

pub land_sound : {d d' : Directory} {a w u : ℕ} → Sound d → Lands a w u d d' → Sound d'
land_sound {d} {d'} {a} {w} {u} s m =
    come_sound s a w u (after u) m.comes m.turns m.moves (sym (to_request d u m.ends)) (λ own at_u. (own, at_u))

-- only the follower waits for the front panel's request: the ways that ended there end at the follower's
pub hand_on_sound : {d d' : Directory} {v f : ℕ} → Sound d → HandsOn v f d d' → Sound d'
hand_on_sound {d} {d'} {v} {f} s m = sound_from d' all f m.gets home
  where
    f≢v : ¬ (f ≡ v)
    f≢v e = let p = m.was_front in let q = m.follows in search arith

    old : (y b : ℕ) → ¬ (b ≡ v) → Behind d y b → Behind d' y b
    old y b n =
        handed_on same_vertex (ap from_place m.was_front) (ap from_place m.follows)
        (λ z z≢v z≢f. agree d d' z (λ c _. m.arrows c) (λ c e. m.others c (λ e'. z≢v (e ∙ ap request_of e')) (λ e'. z≢f (e ∙ ap request_of e'))))
        (λ e. n (cc))

    home : (y : ℕ) → Behind d' y f
    home y =
        old y f f≢v
        (behind_follower s v f m.follows y (subst (λ h. Behind d y h) (sym (front_is_home s v m.was_front)) (s.leads_home y)))

    all : (b : ℕ) → Queued d' b (d'.place b)
    all = changed_twice d.place d'.place v f (Queued d') m.leaves m.gets m.others
        tt (old f f f≢v (s.own f (λ i. let q = m.follows in search arith))) (λ b b≢v _. still_queued s d' b (λ y. old y b b≢v))

-- a find that lands where the book rests: it lands, and then the book is handed on
pub land_at_rest_sound : {d d' : Directory} {a w u : ℕ} → Sound d → LandsAtRest a w u d d' → Sound d'
land_at_rest_sound {d} {d'} {a} {w} {u} s m = hand_on_sound (land_sound s lands) hands
  where
    between : Directory
    between = record { arrow = d'.arrow; place = put d.place a (after u) }

    change : Becomes d.place a (after u) (put d.place a (after u))
    change = put_becomes d.place a (after u)

    lands : Lands a w u d between
    lands = record { comes = m.comes; ends = m.ends; turns = m.turns; moves = change }

    hands : HandsOn u a between d'
    hands = record {
      was_front = change.elsewhere u (λ e. find_away s a w u m.comes (sym e)) ∙ m.was_front;
      follows = change.there;
      arrows = λ _. refl;
      leaves = m.leaves;
      gets = m.gets;
      others = λ b n n'. m.others b n n' ∙ sym (change.elsewhere b n');
    }
