-- Steps of writing a table: one number more, one text after another. Assumes nothing.
use Rattle.std.specs.List.{range_with_len, reduce}
use Rattle.std.specs.Option.{unwrap_or}
use Rattle.std.specs.Ordering.{nat_cmp, max_by_ordering}
use Rattle.std.specs.Fn.{Called}
use Rattle.std.specs.Iterator.{PicksByCmp}
use Rattle.std.specs.Iterator.Adapters.{map_source, map_callee}
use Rattle.std.specs.declared.iter.Map.{Map}
use Rattle.std.specs.declared.ops.Range.{Range}
use denote.Param.Members.{Mut}
use Rattle.std.proofs.iter.Yields.{nat_range_steps}
use Rattle.std.proofs.lemmas.Iterator.{maps, YieldsList-from_range, YieldsList-from_map}
use Rattle.std.proofs.lemmas.Iterator.Consumers.{YieldsList-at, max_from_yields_List}
use Rattle.std.proofs.lemmas.Iterator.Adapters.{option_map_id}
use Rattle.std.proofs.lemmas.List.FromFn.{map-range_with_len_more}
use Rattle.std.proofs.Common.{Option, map, fold, refl, [], ◌∷◌, ◌≡◌, ℕ, zero, suc, ◌+◌, max, List, ◌++◌, sym, ap, ◌∙◌, add-zero, add-suc, suc-add, zero-add, add-one}
use Rattle.std.proofs.lemmas.List.{append_assoc, append-nil}
use Rattle.std.proofs.lemmas.List.Sums.{fold-append}
use native.Mathlib.Nat.{zero-max, sub-zero}
use Rattle.layout.specs.Tables.{greatest, texts}

reduced : (values : List ℕ) → unwrap_or (reduce max values) 0 ≡ fold max 0 values
reduced [] = refl
reduced (v ∷ values) = rw zero-max

folded : (value : ℕ → ℕ) (n : ℕ) → fold max 0 (map value (range_with_len 0 n)) ≡ greatest value n
folded value zero = refl
folded value (suc n) =
    let more = map-range_with_len_more value 0 n n (zero-add n) in
    ap (λ m. fold max 0 (map value (range_with_len 0 m))) (sym (add-one n)) ∙ rw (more, fold-append, folded value n)

-- the greatest of the values at the numbers below n, as a chain finds it
pub greatest_found : {F : Type 0} {s : Map (Range ℕ) F} (g : Mut F (ℕ × Unit {0}) ℕ) (value : ℕ → ℕ) {f : F} (n all most : ℕ) (r : Option ℕ)
    → PicksByCmp (maps nat_range_steps g) max_by_ordering (λ a b. nat_cmp a b) s r → map_source s ≡ record { start = 0; end = n } → map_callee s ≡ f
    → ((x m : ℕ) (q : F) → Called g f (x, tt) m q → (q ≡ f) × (m ≡ value x)) → most ≡ unwrap_or r 0 → n ≡ all → most ≡ greatest value all
greatest_found {s = s} g value n all most r ran source closure calls is every =
    let values = YieldsList-from_map g value (YieldsList-at source (YieldsList-from_range 0 n n refl (sub-zero n))) closure calls in
    let found = sym (option_map_id r) ∙ max_from_yields_List s r ran values in
    is ∙ ap (λ o. unwrap_or o 0) found ∙ reduced (map value (range_with_len 0 n)) ∙ folded value n ∙ ap (greatest value) every

texts_last : (text : ℕ → List ℕ) (a n : ℕ) → texts text a (suc n) ≡ texts text a n ++ text (a + n)
texts_last text a zero = rw add-zero (append-nil (text a))
texts_last text a (suc n) =
    let on = texts_last text (a + 1) n in
    let place : a + 1 + n ≡ a + suc n = rw (add-one, suc-add, add-suc) in
    ap (λ t. text a ++ t) (on ∙ rw place) ∙ sym (append_assoc (text a) (texts text (a + 1) n) (text (a + suc n)))

-- one text more
pub one_more : (front middle : List ℕ) (text : ℕ → List ℕ) (n : ℕ) (next : List ℕ) → next ≡ text n
    → (front ++ (middle ++ texts text 0 n)) ++ next ≡ front ++ (middle ++ texts text 0 (n + 1))
one_more front middle text n next is =
    let last : texts text 0 (suc n) ≡ texts text 0 n ++ next = texts_last text 0 n ∙ rw (zero-add, is) in
    rw (add-one, last) (append_assoc front (middle ++ texts text 0 n) next ∙ ap (λ t. front ++ t) (append_assoc middle (texts text 0 n) next))
