-- The numbers of a line, piece by piece. Assumes nothing.
use Rattle.std.proofs.Common.{Bool, false, ◌<◌, ◌≤◌, get_or, take, inl, inr, arith, Bor, subst, ◌≡◌, ℕ, suc, List, [], ◌∷◌, ◌++◌, length, drop, Ok, Err, Result, eqb, sym, refl, ap, ◌∙◌}
use Rattle.std.specs.List.{slice_split, onto_first}
use Rattle.std.proofs.Math.Seq.{drop-cons}
use Rattle.std.proofs.lemmas.List.{take-append-drop, append_assoc, take_all}
use Rattle.std.specs.Slice.Iter.{split_rest, split_done, split_callee, split_steps}
use Rattle.std.specs.declared.slice.Split.{Split}
use Rattle.std.specs.Fn.{CalledAt}
use denote.Param.Members.{Mut}
use Rattle.std.proofs.lemmas.Iterator.{YieldsList}
use Rattle.std.proofs.lemmas.Iterator.Consumers.{YieldsList-at}
use Rattle.std.proofs.lemmas.Iterator.Splits.{YieldsList-from_slice_split}
use Rattle.text.specs.Numbers.{number_of}
use Rattle.text.specs.Pieces.{grown, pieces}
use Rattle.text.proofs.Cutting.{NoneBefore, cut_whole, cut_first}
use Rattle.std.proofs.lemmas.Bool.{cases_lt}
use Rattle.words.specs.declared.refusal.Refusal.{Refusal}
use Rattle.layout.specs.Layouts.{joined, numbers_of}
use Rattle.layout.proofs.Yielded.{Next}

grown_is : (b : ℕ) (parts : List (List ℕ)) → onto_first b parts ≡ grown b parts
grown_is b [] = refl
grown_is b (part ∷ parts) = refl

split_is : (line : List ℕ) → slice_split (λ b. eqb b 32) line ≡ pieces line
split_is [] = refl
split_is (b ∷ bs) = rw (split_is bs, grown_is b (pieces bs))

-- a line that is cut at each space gives its pieces
pub pieces_given : {F : Type 0} {s t : Split ℕ F} (g : Mut F (Bor ℕ × Unit {0}) Bool) (line : List ℕ) {f : F}
    → s ≡ t → split_rest t ≡ line → split_done t ≡ false → split_callee t ≡ f
    → ((x : ℕ) (b : Bool) (q : F) → CalledAt g f x b q → (q ≡ f) × (b ≡ eqb x 32))
    → YieldsList (split_steps g) (λ x. x.now) s (pieces line)
pieces_given g line is rest done closure calls =
    subst (YieldsList (split_steps g) (λ x. x.now) _) (split_is line)
    (YieldsList-at is (YieldsList-from_slice_split g (λ b. eqb b 32) line rest done closure calls))

-- numbers that were read, and then the others
abbrev pub before : List ℕ → Result (List ℕ) Refusal → Result (List ℕ) Refusal
before read (Ok more) = Ok (read ++ more)
before read (Err e) = Err e

before_none : (r : Result (List ℕ) Refusal) → before [] r ≡ r
before_none (Ok more) = refl
before_none (Err e) = refl

joined_before : (n : ℕ) (read : List ℕ) (r : Result (List ℕ) Refusal) → joined (Ok n) (before read r) ≡ before (n ∷ read) r
joined_before n read (Ok more) = refl
joined_before n read (Err e) = refl

joined_read : (r : Result ℕ Refusal) (s : Result (List ℕ) Refusal) (all : List ℕ) → joined r s ≡ Ok all
    → (n : ℕ) × (more : List ℕ) × (r ≡ Ok n) × (s ≡ Ok more) × (all ≡ n ∷ more)
joined_read (Ok n) (Ok more) all e = (n, more, refl, refl, cc)
joined_read (Ok n) (Err x) all e = absurd cc
joined_read (Err x) s all e = absurd cc

numbers_after : (some more : List (List ℕ)) (read : List ℕ) → numbers_of some ≡ Ok read → numbers_of (some ++ more) ≡ before read (numbers_of more)
numbers_after [] more read e = let none : read ≡ [] = cc in rw none (sym (before_none (numbers_of more)))
numbers_after (piece ∷ some) more read e =
    let parts = joined_read (number_of piece) (numbers_of some) read e in
    let first : joined (number_of piece) (numbers_of (some ++ more)) ≡ joined (Ok parts.0) (before parts.1 (numbers_of more))
    = cc (parts.2, numbers_after some more parts.1 parts.3) in
    first ∙ joined_before parts.0 parts.1 (numbers_of more) ∙ ap (λ ns. before ns (numbers_of more)) (sym parts.4)

-- a piece more that is a number
pub pieces_more : (some : List (List ℕ)) (piece : List ℕ) (read : List ℕ) (n : ℕ) → numbers_of some ≡ Ok read → number_of piece ≡ Ok n
    → numbers_of (some ++ piece ∷ []) ≡ Ok (read ++ n ∷ [])
pieces_more some piece read n far is = numbers_after some (piece ∷ []) read far ∙ rw is

-- a piece that is no number
pub pieces_bad : (all some : List (List ℕ)) (piece : List ℕ) (read : List ℕ) (e : Refusal) → Next all some piece → numbers_of some ≡ Ok read
    → number_of piece ≡ Err e → numbers_of all ≡ Err e
pieces_bad all some piece read e next far is =
    let more = drop (suc (length some)) all in
    let rest : drop (length some) all ≡ piece ∷ more = drop-cons all (length some) piece next.within ∙ ap (λ p. p ∷ more) (sym next.here) in
    let whole : all ≡ some ++ (piece ∷ more)
    = sym (take-append-drop (length some) all) ∙ ap (λ t. t ++ drop (length some) all) (sym next.front) ∙ ap (λ t. some ++ t) rest in
    ap numbers_of whole ∙ numbers_after some (piece ∷ more) read far ∙ rw is

-- the same for a line that is cut by its first space: its first piece is read, and the rest goes on
before_joined : (read : List ℕ) (n : ℕ) (more : Result (List ℕ) Refusal)
    → before read (joined (Ok n) more) ≡ before (read ++ n ∷ []) more
before_joined read n (Ok ns) = ap Ok (sym (append_assoc read (n ∷ []) ns))
before_joined read n (Err e) = refl

module _ (line rest : List ℕ) (read : List ℕ) (far : numbers_of (pieces line) ≡ before read (numbers_of (pieces rest))) where
  -- a number before a space; `now` is what was read with it
  pub read_more : (now : List ℕ) (end n : ℕ) → now ≡ read ++ n ∷ [] → end < length rest → NoneBefore 32 rest end
      → get_or rest end 0 ≡ 32 → number_of (take end rest) ≡ Ok n
      → numbers_of (pieces line) ≡ before now (numbers_of (pieces (drop (suc end) rest)))
  read_more now end n pushed h none space is =
      far ∙ rw (cut_first 32 ([] ∷ []) rest end h none space, is)
      (before_joined read n (numbers_of (pieces (drop (suc end) rest)))
      ∙ ap (λ ns. before ns (numbers_of (pieces (drop (suc end) rest)))) (sym pushed))

  -- the last number
  pub read_last : (end n : ℕ) → length rest ≤ end → end ≤ length rest → NoneBefore 32 rest end → number_of (take end rest) ≡ Ok n
      → numbers_of (pieces line) ≡ Ok (read ++ n ∷ [])
  read_last end n low high none is =
      let e : end ≡ length rest = omega arith in
      let whole : pieces rest ≡ rest ∷ [] = cut_whole 32 rest (rw e at none) in
      let all : take end rest ≡ rest = take_all end rest low in
      let m : number_of rest ≡ Ok n = ap number_of (sym all) ∙ is in
      far ∙ rw (whole, m)

  -- a piece that is no number
  pub read_bad : (end : ℕ) (e : Refusal) → NoneBefore 32 rest end → end ≤ length rest → (end < length rest → get_or rest end 0 ≡ 32)
      → number_of (take end rest) ≡ Err e → numbers_of (pieces line) ≡ Err e
  read_bad end e none within space is = elim (cases_lt end (length rest)) [
    | inl h ↦ far ∙ rw (cut_first 32 ([] ∷ []) rest end h none (space h), is)
    | inr h ↦
        let same : end ≡ length rest = omega arith in
        let whole : pieces rest ≡ rest ∷ [] = cut_whole 32 rest (rw same at none) in
        let all : take end rest ≡ rest = take_all end rest h in
        let m : number_of rest ≡ Err e = ap number_of (sym all) ∙ is in
        far ∙ rw (whole, m)
  ]
