-- A ring of slots as the list of the elements that it holds. Assumes nothing.
use Rattle.std.specs.Prelude.{◌≡◌, ℕ, suc, ◌+◌, ◌-◌, ◌%◌, ◌<◌, ◌≤◌, ◌≢◌, ◌⊎◌, List, [], ◌∷◌, ◌++◌, length, get_or, take, drop, set, slice_index_or, slice_set, refl}
use Rattle.std.proofs.Common.{inl, inr, ⊎_elim, sym, ap, ◌∙◌, mod-lt, mod-eq_of_lt, arith, length-take, length-drop, length-append, length-set}
use Rattle.std.proofs.Math.Nat.{mod-eq-sub-mod, mod-add-mod}
use Rattle.std.specs.List.{remove}
use Rattle.std.proofs.lemmas.List.{append-nil, get_or-take, get_or-drop, get_or_append_left, get_or-append_right, get_or-set_same, get_or-set_other, get_or_push, take-take, drop_all, same_lists, length_push}
use Rattle.std.proofs.lemmas.Bool.{cases_lt}
use Rattle.carrier.specs.Stored.{ring}

-- where a place before the end of the second round stands in the first
wrapped : (c n : ℕ) → n < c + c → ((n < c) × (n % c ≡ n)) ⊎ ((c ≤ n) × (n % c ≡ n - c))
wrapped c n h =
    ⊎_elim
    (λ below. inl (below, mod-eq_of_lt below))
    (λ past. let left : n - c < c = omega arith in inr (past, mod-eq-sub-mod past ∙ mod-eq_of_lt left))
    (cases_lt n c)

module _ {X : Type 0} (slots : List X) (first : ℕ) (starts : first < length slots) where
  pub length_ring : (held : ℕ) → held ≤ length slots → length (ring slots first held) ≡ held
  length_ring held fits = simp (length-take, length-drop, length-append) (omega arith)

  pub ring_at : (held k : ℕ) (d : X) → held ≤ length slots → k < held → slice_index_or (ring slots first held) k d ≡ slice_index_or slots ((first + k) % length slots) d
  ring_at held k d fits below =
      get_or-take held (drop first (slots ++ slots)) k d below
      ∙ get_or-drop first (slots ++ slots) k d
      ∙ ⊎_elim
      (λ w. get_or_append_left slots slots d (first + k) w.0 ∙ ap (λ i. get_or slots i d) (sym w.1))
      (λ w. get_or-append_right slots slots (length slots) (first + k) d refl w.0 ∙ ap (λ i. get_or slots i d) (sym w.1))
      (wrapped (length slots) (first + k) (omega arith))

module _ {X : Type 0} (slots : List X) (first : ℕ) (starts : first < length slots) where
  -- the slots that are held come before the next free one, and it is none of them
  apart : (held k : ℕ) → held < length slots → k < held → (first + k) % length slots ≢ (first + held) % length slots
  apart held k room below same =
      ⊎_elim
      (λ near. ⊎_elim (λ far. omega arith) (λ far. omega arith) (wrapped (length slots) (first + held) (omega arith)))
      (λ near. ⊎_elim (λ far. omega arith) (λ far. omega arith) (wrapped (length slots) (first + held) (omega arith)))
      (wrapped (length slots) (first + k) (omega arith))

  -- one more at the end
  pub ring_push : (held : ℕ) (x : X) → held < length slots → ring (slice_set slots ((first + held) % length slots) x) first (held + 1) ≡ ring slots first held ++ x ∷ []
  ring_push held x room =
      let after = set slots ((first + held) % length slots) x in
      let as_long = length-set slots ((first + held) % length slots) x in
      let starts_too : first < length after = omega arith in
      let longer = length_ring after first starts_too (held + 1) (omega arith) in
      let long = length_ring slots first starts held (omega arith) in
      same_lists _ _ (omega (arith, length_push (ring slots first held) x))
      (λ k d below.
      ring_at after first starts_too (held + 1) k d (omega arith) (omega arith)
      ∙ ap (λ c. get_or after ((first + k) % c) d) as_long
      ∙ ⊎_elim
      (λ l. get_or-set_other slots _ _ x d (apart held k room l) ∙ sym (ring_at slots first starts held k d (omega arith) l) ∙ sym (get_or_append_left (ring slots first held) (x ∷ []) d k (omega arith)))
      (λ l.
      let last : k ≡ held = omega arith in
      ap (λ i. get_or after ((first + i) % length slots) d) last
      ∙ get_or-set_same slots ((first + held) % length slots) x d (mod-lt (first + held) (omega arith))
      ∙ sym (get_or_push (ring slots first held) x d k (omega arith)))
      (cases_lt k held))

  -- the oldest removed
  pub ring_oldest : (held : ℕ) → held ≤ length slots → ring slots ((first + 1) % length slots) (held - 1) ≡ remove (ring slots first held) 0
  ring_oldest held fits =
      let next : (first + 1) % length slots < length slots = mod-lt (first + 1) (omega arith) in
      let shorter = length_ring slots ((first + 1) % length slots) next (held - 1) (omega arith) in
      let long = length_ring slots first starts held fits in
      same_lists _ _ (omega (arith, length-drop 1 (ring slots first held)))
      (λ k d below.
      ring_at slots ((first + 1) % length slots) next (held - 1) k d (omega arith) (omega arith)
      ∙ ap (λ i. get_or slots i d) (mod-add-mod (first + 1) (length slots) k ∙ ap (λ n. n % length slots) (omega arith))
      ∙ sym (ring_at slots first starts held (1 + k) d fits (omega arith))
      ∙ sym (get_or-drop 1 (ring slots first held) k d))

  -- the newest removed
  pub ring_newest : (held : ℕ) → 0 < held → held ≤ length slots → ring slots first (held - 1) ≡ remove (ring slots first held) (held - 1)
  ring_newest held some fits =
      let all : length (ring slots first held) ≤ suc (held - 1) = omega (arith, length_ring slots first starts held fits) in
      let shorter : held - 1 ≤ held = omega arith in
      sym (ap (λ l. take (held - 1) (ring slots first held) ++ l) (drop_all (suc (held - 1)) (ring slots first held) all) ∙ append-nil _ ∙ take-take (held - 1) held (drop first (slots ++ slots)) shorter)
