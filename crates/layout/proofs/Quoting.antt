-- One turn of quoting a text: its first line, and the lines that follow it. Assumes nothing.
use Rattle.std.proofs.Common.{◌≡◌, ℕ, suc, ◌+◌, ◌-◌, ◌<◌, ◌≤◌, min, true, false, eqb, List, [], ◌∷◌, ◌++◌, length, get_or, take, drop, Option, Some, None, Bor, sym, refl, ap, ◌∙◌, inl, inr, length-append, add-zero, add-one, arith}
use Rattle.std.specs.Option.{MatchOption, unwrap_or}
use Rattle.std.specs.Cmp.Lexicographic.{pointwise, same_text, other_text}
use Rattle.std.specs.List.{IsFirstMatchOrLen, flat_map}
use Rattle.std.proofs.Math.Seq.{take-append_seam, drop-append_seam, take-suc}
use Rattle.std.proofs.lemmas.List.{append_assoc, append-nil, get_or-drop, nil_from_length, take_all, drop_all}
use Rattle.std.proofs.lemmas.Bool.{cases_lt, eqb-true, eq-eqb, true≢false}
use Rattle.text.specs.Pieces.{lines}
use Rattle.text.proofs.Cutting.{NoneBefore, cut_last, cut_first}
use Rattle.layout.specs.Tables.{quoted, quoted_text}

-- what `strip_suffix` says of the end of a line
abbrev pub Strips : Bor (List ℕ) → Option (Bor (List ℕ)) → Type 0
Strips l r =
    MatchOption r (pointwise eqb (drop (length l.now - 1) l.now) (10 ∷ []) ≡ false)
    (λ x. (pointwise eqb (drop (length l.now - 1) l.now) (10 ∷ []) ≡ true) × (x.now ≡ take (length l.now - 1) l.now)
    × (length x.now + 1 ≡ length l.now))

-- the end of a line goes
stripped : (l : Bor (List ℕ)) (r : Option (Bor (List ℕ))) (front : List ℕ) → l.now ≡ front ++ 10 ∷ [] → Strips l r → (unwrap_or r l).now ≡ front
stripped l None front e s =
    let place : length l.now - 1 ≡ length front = omega (arith, ap length e, length-append front (10 ∷ [])) in
    absurd (other_text _ _ (sym s) (ap (λ n. drop n l.now) place ∙ ap (λ t. drop (length front) t) e ∙ drop-append_seam front (10 ∷ [])))
stripped l (Some x) front e s =
    let place : length l.now - 1 ≡ length front = omega (arith, ap length e, length-append front (10 ∷ [])) in
    s.1 ∙ ap (λ n. take n l.now) place ∙ ap (λ t. take (length front) t) e ∙ take-append_seam front (10 ∷ [])

-- what has no end stays
kept : (l : Bor (List ℕ)) (r : Option (Bor (List ℕ))) → 0 < length l.now → NoneBefore 10 l.now (length l.now) → Strips l r → (unwrap_or r l).now ≡ l.now
kept l None some none s = refl
kept l (Some x) some none s =
    let last = same_text (drop (length l.now - 1) l.now) (10 ∷ []) (sym s.0) in
    let here : get_or l.now (length l.now - 1) 0 ≡ 10
    = ap (λ n. get_or l.now n 0) (sym (add-zero _)) ∙ sym (get_or-drop (length l.now - 1) l.now 0 0) ∙ ap (λ t. get_or t 0 0) last in
    absurd (none (length l.now - 1) (omega arith) here)

-- the line of a text with no line end
only_line : (bs : List ℕ) → 0 < length bs → NoneBefore 10 bs (length bs) → lines bs ≡ bs ∷ []
only_line [] some none = absurd (omega arith)
only_line (b ∷ bs) some none = cut_last 10 b bs none

module _ (whole out now rest : List ℕ) (far : whole ≡ out ++ quoted_text rest) (end : ℕ) (here : now ≡ out ++ quoted (take end rest))
    (none : NoneBefore 10 rest end) where
  -- a line before a line end
  pub quoted_more : end < length rest → get_or rest end 0 ≡ 10 → whole ≡ now ++ quoted_text (drop (end + 1) rest)
  quoted_more h ends =
      let cut = cut_first 10 [] rest end h none ends in
      far ∙ ap (λ ls. out ++ flat_map quoted ls) cut
      ∙ rw (add-one, here) (sym (append_assoc out (quoted (take end rest)) (quoted_text (drop (suc end) rest))))

  -- the last line
  pub quoted_last : 0 < length rest → length rest ≤ end → end ≤ length rest → whole ≡ now ++ quoted_text (drop end rest)
  quoted_last some low high =
      let e : end ≡ length rest = omega arith in
      let one = only_line rest some (rw e at none) in
      let all : take end rest ≡ rest = take_all end rest low in
      let gone : drop end rest ≡ [] = drop_all end rest low in
      far ∙ ap (λ ls. out ++ flat_map quoted ls) one
      ∙ rw (gone, here, all) (sym (append_assoc out (quoted rest) []))

-- nothing is left
pub quoted_done : (whole out rest : List ℕ) → whole ≡ out ++ quoted_text rest → length rest ≡ 0 → out ≡ whole
quoted_done whole out rest far done =
    let none : rest ≡ [] = nil_from_length rest done in
    sym (far ∙ rw none (append-nil out))

module _ (rest more : List ℕ) (l : Bor (List ℕ)) (r : Option (Bor (List ℕ))) (i : ℕ) (cut : rest ≡ l.now ++ more)
    (size : length l.now ≡ min (i + 1) (length rest)) (first : IsFirstMatchOrLen (λ b. eqb b 10) rest i) (some : 0 < length rest) (strips : Strips l r)
    (whole out now : List ℕ) (far : whole ≡ out ++ quoted_text rest) (is : now ≡ out ++ quoted (unwrap_or r l).now) where
  none_before : NoneBefore 10 rest i
  none_before k h e = true≢false (sym (eq-eqb (get_or rest k 0) 10 e) ∙ first.0 k 0 (omega arith) h)

  ended : i < length rest → whole ≡ now ++ quoted_text more
  ended h =
      let end : get_or rest i 0 ≡ 10 = eqb-true (get_or rest i 0) 10 (first.1 h 0) in
      let long : length l.now ≡ i + 1 = omega arith in
      let line : l.now ≡ take i rest ++ 10 ∷ []
      = sym (take-append_seam l.now more) ∙ ap (λ t. take (length l.now) t) (sym cut) ∙ ap (λ n. take n rest) (long ∙ add-one i)
      ∙ take-suc rest i 0 h ∙ ap (λ b. take i rest ++ b ∷ []) end in
      let others : drop (i + 1) rest ≡ more
      = ap (λ n. drop n rest) (sym long) ∙ ap (λ t. drop (length l.now) t) cut ∙ drop-append_seam l.now more in
      let here = is ∙ ap (λ t. out ++ quoted t) (stripped l r (take i rest) line strips) in
      quoted_more whole out now rest far i here none_before h end ∙ ap (λ t. now ++ quoted_text t) others

  unended : length rest ≤ i → whole ≡ now ++ quoted_text more
  unended h =
      let long : length l.now ≡ length rest = omega arith in
      let nothing : more ≡ [] = nil_from_length more (omega (arith, ap length cut, length-append l.now more)) in
      let all : rest ≡ l.now = cut ∙ rw nothing (append-nil l.now) in
      let none : NoneBefore 10 l.now (length l.now) = λ k j e. none_before k (omega arith) (ap (λ t. get_or t k 0) all ∙ e) in
      let end : drop (length rest) rest ≡ more = drop_all (length rest) rest (omega arith) ∙ sym nothing in
      let here = is ∙ ap (λ t. out ++ quoted t) (kept l r (omega arith) none strips ∙ sym all ∙ sym (take_all (length rest) rest (omega arith))) in
      quoted_last whole out now rest far (length rest) here (λ k j. none_before k (omega arith)) some (omega arith) (omega arith)
      ∙ ap (λ t. now ++ quoted_text t) end

  -- what is printed for the line that `split_inclusive` gave goes behind what was printed
  pub quoted_turn : whole ≡ now ++ quoted_text more
  quoted_turn = elim (cases_lt i (length rest)) [ inl h ↦ ended h | inr h ↦ unended h ]
