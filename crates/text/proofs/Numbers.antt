-- The reading of a number, digit by digit. Assumes nothing.
use Rattle.std.proofs.Common.{◌≡◌, ℕ, zero, suc, ◌+◌, ◌-◌, ◌*◌, ◌^◌, ◌<◌, ◌≤◌, true, false, leb, ◌⊎◌, List, [], ◌∷◌, ◌++◌, map, length, get_or, drop, Ok, Err, fold, Result, Option, Some, None, Bor, lit<, zero-add, suc-add, refl, sym, subst, ap, ◌∙◌, pow-suc, add-one, add-zero, arith}
use Rattle.std.specs.List.{FoldsTo}
use Rattle.std.specs.Iterator.{Yields}
use Rattle.std.specs.Option.{MatchOption}
use Rattle.std.proofs.lemmas.Iterator.{YieldsList}
use Rattle.std.proofs.lemmas.Iterator.Consumers.{YieldsList-so_far, YieldsList-turn, YieldsList-end}
use Rattle.std.proofs.Math.Seq.{drop-cons}
use Rattle.std.proofs.lemmas.List.{at_drop_more, at_drop_all, length-drop, get_or_default, take-append-drop}
use Rattle.std.proofs.lemmas.Bool.{le-leb}
use Rattle.std.proofs.lemmas.Bool.Decides.{nat_tests}
use Rattle.words.specs.declared.refusal.Refusal.{Refusal}
use Rattle.words.specs.declared.refusal.Refusal.TheVariants.{BadLine}
use Rattle.text.specs.Numbers.{is_digit, all_digits, decimal_value, number_of}

-- one digit more to a value
abbrev digit_more : ℕ → ℕ → ℕ
digit_more n b = n * 10 + (b - 48)

-- how far the reading has come: the rest decides, and the value goes on from what was read
abbrev pub ReadSoFar : List ℕ → ℕ → ℕ → Type 0
ReadSoFar bs i n =
    (all_digits bs ≡ all_digits (drop i bs)) × (decimal_value bs ≡ fold digit_more n (drop i bs)) × (n < 10 ^ i)

pub read_more : (bs : List ℕ) (i n : ℕ) → i < length bs → 48 ≤ get_or bs i 0 → get_or bs i 0 ≤ 57 → ReadSoFar bs i n
    → ReadSoFar bs (i + 1) (n * 10 + (get_or bs i 0 - 48))
read_more bs i n more low high far =
    let l : leb 48 (get_or bs i 0) ≡ true = le-leb _ _ low in
    let h : leb (get_or bs i 0) 57 ≡ true = le-leb _ _ high in (
      far.0 ∙ at_drop_more all_digits bs i 0 more ∙ rw (l, h),
      far.1 ∙ at_drop_more (fold digit_more n) bs i 0 more,
      rw (add-one, pow-suc) (omega (arith, far.2)),
    )

-- a byte that is no digit makes the whole no number
pub read_bad : (bs : List ℕ) (i n : ℕ) → i < length bs → (get_or bs i 0 < 48) ⊎ (57 < get_or bs i 0) → ReadSoFar bs i n
    → ◌≡◌ {A = Result ℕ Refusal} (Err BadLine) (number_of bs)
read_bad bs i n more bad far =
    let b : is_digit (get_or bs i 0) ≡ false = grind (arith, nat_tests) in
    let all : all_digits bs ≡ false = far.0 ∙ at_drop_more all_digits bs i 0 more ∙ rw b in
    grind (arith, nat_tests)

-- at the end the value is the number's
pub read_all : (bs : List ℕ) (i n : ℕ) → length bs ≤ i → 1 ≤ length bs → length bs ≤ 6 → ReadSoFar bs i n
    → ◌≡◌ {A = Result ℕ Refusal} (Ok n) (number_of bs)
read_all bs i n end low high far =
    let all : all_digits bs ≡ true = far.0 ∙ at_drop_all all_digits bs i end in
    let v : decimal_value bs ≡ n = far.1 ∙ at_drop_all (fold digit_more n) bs i end in
    let l : leb 1 (length bs) ≡ true = le-leb _ _ low in
    let h : leb (length bs) 6 ≡ true = le-leb _ _ high in
    rw (l, h, all, v)

-- a bound by fewer digits is one by more
below : (i more n : ℕ) → n < 10 ^ i → n < 10 ^ (more + i)
below i zero n h = rw zero-add h
below i (suc more) n h = let far = below i more n h in rw (suc-add, pow-suc) (omega arith)

module _ {F : Type 0} (turn : F × ℕ → Bor ℕ → F × ℕ → Type 0)
    (digit : (p q : F × ℕ) (x : Bor ℕ) → turn p x q → (48 ≤ x.now) × (x.now ≤ 57) × (q.1 ≡ p.1 * 10 + (x.now - 48))) (bs : List ℕ) where
  -- the turns over the bytes that come next, each of which is a digit
  read_turns : (xs : List (Bor ℕ)) (rest : List ℕ) (i : ℕ) (p q : F × ℕ) → drop i bs ≡ map (λ x. x.now) xs ++ rest → ReadSoFar bs i p.1
      → FoldsTo turn p xs q → ReadSoFar bs (i + length xs) q.1
  read_turns [] rest i p q next far turns = rw add-zero (subst (λ r. ReadSoFar bs i r.1) turns far)
  read_turns (x ∷ xs) rest i p q next far turns =
      let within : i < length bs = omega (arith, length-drop i bs, ap length next) in
      let cut = sym (drop-cons bs i 0 within) ∙ next in
      let here : get_or bs i 0 ≡ x.now = cc cut in
      let others : drop (suc i) bs ≡ map (λ y. y.now) xs ++ rest = cc cut in
      let facts = digit p turns.0 x turns.1 in
      let value : turns.0.1 ≡ p.1 * 10 + (get_or bs i 0 - 48) = facts.2 ∙ rw here in
      let more = read_more bs i p.1 within (rw here facts.0) (rw here facts.1) far in
      let on : ReadSoFar bs (i + 1) turns.0.1 = rw value more in
      let place : i + 1 + length xs ≡ i + suc (length xs) = omega arith in
      subst (λ n. ReadSoFar bs n q.1) place (read_turns xs rest (i + 1) turns.0 q (rw add-one others) on turns.2)

  module _ {S : Type 0} {steps : S → Option (Bor ℕ) → S → Type 0} {s : S} (yields : YieldsList steps (λ x. x.now) s bs) (start : F) (xs : List (Bor ℕ)) (t : S)
      (given : Yields steps s xs t) (q : F × ℕ) (turns : FoldsTo turn (start, 0) xs q) where
    -- the turns so far, at an iterator that gives the bytes
    read_front : ReadSoFar bs (length xs) q.1
    read_front =
        let cut : bs ≡ map (λ x. x.now) xs ++ drop (length xs) bs
        = sym (take-append-drop (length xs) bs) ∙ ap (λ ds. ds ++ drop (length xs) bs) (sym (YieldsList-so_far yields xs t given)) in
        rw (sym (zero-add (length xs))) (read_turns xs (drop (length xs) bs) 0 (start, 0) q cut (refl, refl, lit< tt) turns)

    -- at each of them the value is small
    pub read_small : (x : Bor ℕ) (u : S) → steps t (Some x) u → length bs ≤ 6 → q.1 < 10 ^ 6
    read_small x u step few =
        let turn = YieldsList-turn yields xs t given (Some x) u x refl step in
        let more : 6 - length xs + length xs ≡ 6 = omega (arith, turn.0) in
        subst (λ n. q.1 < 10 ^ n) more (below (length xs) (6 - length xs) q.1 read_front.2)

    -- they end after the last byte, or before one that is no digit
    pub read_ends : (o : Option (Bor ℕ)) (u : S) → steps t o u → (r : Result ℕ Refusal) → {Stops : Bor ℕ → Type 0} → MatchOption o (r ≡ Ok q.1) Stops
        → ((x : Bor ℕ) → Stops x → ((x.now < 48) ⊎ (57 < x.now)) × (r ≡ Err BadLine)) → 1 ≤ length bs → length bs ≤ 6 → r ≡ number_of bs
    read_ends None u step r all stops low high =
        let long = (YieldsList-end yields xs t given None u refl step).1 in
        all ∙ read_all bs (length xs) q.1 (omega (arith, long)) low high read_front
    read_ends (Some x) u step r out stops low high =
        let next = YieldsList-turn yields xs t given (Some x) u x refl step in
        let bad = stops x out in
        let here : x.now ≡ get_or bs (length xs) 0 = next.1 ∙ get_or_default bs (length xs) x.now 0 next.0 in
        bad.1 ∙ read_bad bs (length xs) q.1 next.0 (rw (sym here) bad.0) read_front
