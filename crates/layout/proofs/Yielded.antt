-- What a `for` over an iterator has yielded, where the list that the iterator gives is known. Assumes nothing.
use Rattle.std.proofs.Common.{◌≡◌, ◌<◌, List, length, get_or, take, map, Option, Some, None, sym, ap, ◌∙◌, subst}
use Rattle.std.proofs.lemmas.List.{length-map}
use Rattle.std.specs.Iterator.{Yields}
use Rattle.std.proofs.lemmas.Iterator.{YieldsList}
use Rattle.std.proofs.lemmas.Iterator.Consumers.{YieldsList-so_far, YieldsList-turn, YieldsList-end}

-- some are the front of a list, and the next of it is x
pub record Next {B : Type 0} (all some : List B) (x : B) : Type 0 where
  pub front : some ≡ take (length some) all
  pub within : length some < length all
  pub here : x ≡ get_or all (length some) x

module _ {S A B : Type 0} {steps : S → Option A → S → Type 0} {s : S} (xs : List A) (t : S) (by : Yields steps s xs t) (v : A → B) where
  -- the items so far and the next one
  pub next_item : (r : Option A) (u : S) (x : A) → r ≡ Some x → steps t r u → {all : List B} → YieldsList steps v s all → Next all (map v xs) (v x)
  next_item r u x is step {all} yields =
      let turn = YieldsList-turn yields xs t by r u x is step in
      let long : length (map v xs) ≡ length xs = length-map xs v in
      record {
        front = YieldsList-so_far yields xs t by ∙ ap (λ n. take n all) (sym long);
        within = subst (λ n. n < length all) (sym long) turn.0;
        here = turn.1 ∙ ap (λ n. get_or all n (v x)) (sym long);
      }

  -- at the end they are the list
  pub all_items : (r : Option A) (u : S) → r ≡ None → steps t r u → {all : List B} → YieldsList steps v s all → map v xs ≡ all
  all_items r u is step yields = (YieldsList-end yields xs t by r u is step).0
