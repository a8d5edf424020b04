-- Making and reading event words are inverse to each other. Assumes nothing.
use Rattle.std.proofs.Common.{◌≡◌, ℕ, ◌+◌, ◌-◌, ◌*◌, ◌^◌, ◌<◌, Bool, true, false, cond, ◌&&◌, ltb, eqb, get_or, Err, List, [], ◌∷◌, length, take, Ok, Result, refl, ◌∙◌, arith}
use Rattle.std.proofs.lemmas.Nat.{shr-shr}
use Rattle.std.proofs.lemmas.Bool.{eqb-true, cond_both, agree_below_at}
use Rattle.std.proofs.lemmas.Bool.Decides.{nat_tests}
use Rattle.std.specs.Option.{option_to_list}
use Rattle.words.specs.declared.refusal.Refusal.{Refusal}
use Rattle.words.specs.declared.refusal.Refusal.TheVariants.{UnlawfulWord}
use Rattle.words.specs.declared.event.Event.{Event}
use Rattle.words.specs.declared.event.Event.TheVariants.{Opened, Asked, Granted, Passed, Landed, Moved, Written, Rests, Sent, Refused}
use Rattle.words.specs.declared.kind.Kind.{Kind}
use Rattle.words.specs.declared.kind.Kind.TheVariants.{Find as KFind, Book as KBook, Opened as KOpened, Asked as KAsked, Granted as KGranted, Passed as KPassed, Landed as KLanded, Moved as KMoved, Written as KWritten, Rests as KRests, Sent as KSent, Refused as KRefused}
use Rattle.words.specs.WordKinds.{kind_number}
use Rattle.words.specs.Fields.{tag, below_tag, field_a, field_b, field_c, below_fields, unused}
use Rattle.words.specs.Events.{lawful_if, fielded, event_word, second_word, event_of_fields, event_of, EventsReadBack, EventsAreMade}

-- a word that was made of three fields has them
pub fields_back : (kind a b c w : ℕ) → kind < 12 → fielded kind a b c ≡ Ok w
    → (tag w ≡ kind) × (field_a w ≡ a) × (field_b w ≡ b) × (field_c w ≡ c) × (below_fields w ≡ 0)
fields_back kind a b c w small made = grind (arith, nat_tests)

-- so it reads as the event of those fields
reads_fields : (kind a b c w : ℕ) (more : List ℕ) → kind < 12 → fielded kind a b c ≡ Ok w
    → event_of (w ∷ more) ≡ event_of_fields kind a b c more
reads_fields kind a b c w more small made =
    let f = fields_back kind a b c w small made in
    grind (arith, nat_tests)

-- a value that was made under a test passed it
passed : {X : Type 0} (test : Bool) (r : Result X Refusal) (x : X) → cond test r (Err UnlawfulWord) ≡ Ok x → (test ≡ true) × (r ≡ Ok x)
passed true r x made = (refl, made)
passed false r x made = absurd (let z : ◌≡◌ {A = ℕ} 0 1 = cc in omega arith)

pub read_back : EventsReadBack
read_back (Opened highest) w more made = reads_fields 3 highest 0 0 w more (omega arith) made
read_back (Asked panel to) w more made = reads_fields 4 panel to 0 w more (omega arith) made
read_back (Granted panel from) w more made = reads_fields 5 panel from 0 w more (omega arith) made
read_back (Passed asker at to) w more made = reads_fields 6 asker at to w more (omega arith) made
read_back (Landed asker at book) w more made =
    let p = passed (ltb book 2) (fielded 7 asker at book) w made in
    rw (reads_fields 7 asker at book w more (omega arith) p.1, p.0)
read_back (Moved addressee at to) w more made = reads_fields 8 addressee at to w more (omega arith) made
read_back (Written panel entry) w more made = reads_fields 9 panel 0 0 w (entry ∷ more) (omega arith) made
read_back (Rests panel) w more made = reads_fields 10 panel 0 0 w more (omega arith) made
read_back (Sent panel to) w more made = reads_fields 11 panel to 0 w more (omega arith) made
read_back (Refused number) w more made =
    let p = passed (ltb 0 number && ltb number 256) (Ok (12 * 2 ^ 28 + number)) w made in
    let kind : tag w ≡ 12 = grind (arith, nat_tests) in
    let low : below_tag w ≡ number = grind (arith, nat_tests) in
    rw (kind, low, p.0)

-- a word with nothing below its fields is the one made of them
fields_made : (w : ℕ) → below_fields w ≡ 0 → fielded (tag w) (field_a w) (field_b w) (field_c w) ≡ Ok w
fields_made w low = grind (arith, nat_tests, shr-shr w 13 5, shr-shr w 18 5, shr-shr w 23 5)

-- what is promised of an event that was read: it is made as this word, and its entry is the word that follows
abbrev Made : Result ℕ Refusal → List ℕ → Event → Type 0
Made word more e = (event_word e ≡ word) × (option_to_list (second_word e) ≡ take (length (option_to_list (second_word e))) more)

-- an event that was read of a kind and three fields is made of them
made_of : (kind : Kind) (a b c : ℕ) (more : List ℕ) (e : Event) → event_of_fields (kind_number kind) a b c more ≡ Ok e
    → Made (fielded (kind_number kind) a b c) more e
made_of KFind a b c more e read = grind (arith, nat_tests)
made_of KBook a b c more e read = grind (arith, nat_tests)
made_of KOpened a b c more e read = grind (arith, nat_tests)
made_of KAsked a b c more e read = grind (arith, nat_tests)
made_of KGranted a b c more e read = grind (arith, nat_tests)
made_of KPassed a b c more e read = grind (arith, nat_tests)
made_of KLanded a b c more e read = grind (arith, nat_tests)
made_of KMoved a b c more e read = grind (arith, nat_tests)
made_of KWritten a b c [] e read = grind (arith, nat_tests)
made_of KWritten a b c (entry ∷ more) e read = grind (arith, nat_tests)
made_of KRests a b c more e read = grind (arith, nat_tests)
made_of KSent a b c more e read = grind (arith, nat_tests)
made_of KRefused a b c more e read = grind (arith, nat_tests)

-- the kinds, each at the place of its number less one
abbrev kinds : List Kind
kinds = KFind ∷ KBook ∷ KOpened ∷ KAsked ∷ KGranted ∷ KPassed ∷ KLanded ∷ KMoved ∷ KWritten ∷ KRests ∷ KSent ∷ KRefused ∷ []

number_back : (n : ℕ) → n < 12 → kind_number (get_or kinds n KFind) ≡ n + 1
number_back n small = eqb-true _ _ (agree_below_at (λ n. eqb (kind_number (get_or kinds n KFind)) (n + 1)) (λ _. true) 12 n refl small)

-- a refusal that was read is made as its word
refused_made : (w : ℕ) (more : List ℕ) (e : Event) → tag w ≡ 12
    → lawful_if (ltb 0 (below_tag w) && ltb (below_tag w) 256) (Refused (below_tag w)) ≡ Ok e → Made (Ok w) more e
refused_made w more e kind read = grind (arith, nat_tests)

-- only nine numbers are the kind of an event of three fields
number_small : (kind a b c : ℕ) (more : List ℕ) (e : Event) → event_of_fields kind a b c more ≡ Ok e → (2 < kind) × (kind < 12)
number_small kind a b c more e read = (grind (arith, nat_tests), grind (arith, nat_tests))

fields_are_made : (w : ℕ) (more : List ℕ) (e : Event) → below_fields w ≡ 0
    → event_of_fields (tag w) (field_a w) (field_b w) (field_c w) more ≡ Ok e → Made (Ok w) more e
fields_are_made w more e low read =
    let in_range = number_small (tag w) (field_a w) (field_b w) (field_c w) more e read in
    let kind = get_or kinds (tag w - 1) KFind in
    let back : kind_number kind ≡ tag w = number_back (tag w - 1) (omega arith) ∙ omega arith in
    let made = made_of kind (field_a w) (field_b w) (field_c w) more e (rw back read) in
    (made.0 ∙ rw back (fields_made w low), made.1)

pub are_made : EventsAreMade
are_made w more e read =
    cond_both (eqb (tag w) 12) _ _ (λ r. r ≡ Ok e → Made (Ok w) more e)
    (λ t r. refused_made w more e (eqb-true _ _ t) r)
    (λ _ r. let p = passed (unused (below_fields w)) _ e r in fields_are_made w more e (eqb-true _ _ p.0) p.1) read
