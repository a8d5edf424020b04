-- Event words: what a call did, as it is logged. Assumes nothing.
use Rattle.std.specs.Prelude.{◌≡◌, ℕ, ◌+◌, ◌*◌, ◌^◌, Bool, cond, ◌&&◌, List, [], ◌∷◌, ◌++◌, length, take, Some, None, Ok, Err, Option, Result, ◌==◌, nat_lt}
use Rattle.std.specs.Option.{option_to_list}
use Rattle.words.specs.Fields.{tag, below_tag, field_a, field_b, field_c, below_fields, fits, unused, packed}
use Rattle.words.specs.declared.refusal.Refusal.{Refusal}
use Rattle.words.specs.declared.refusal.Refusal.TheVariants.{UnlawfulWord}
use Rattle.words.specs.declared.event.Event.{Event}
use Rattle.words.specs.declared.event.Event.TheVariants.{Opened, Asked, Granted, Passed, Landed, Moved, Written, Rests, Sent, Refused}

-- the value where the test holds, else the refusal of an unlawful word
abbrev pub lawful_if : {X : Type 0} → Bool → X → Result X Refusal
lawful_if test x = cond test (Ok x) (Err UnlawfulWord)

-- a word of three fields that each fit
abbrev pub fielded : ℕ → ℕ → ℕ → ℕ → Result ℕ Refusal
fielded kind a b c = lawful_if (fits a && (fits b && fits c)) (packed kind a b c)

-- the first word of every event
abbrev pub event_word : Event → Result ℕ Refusal
event_word (Opened highest) = fielded 3 highest 0 0
event_word (Asked panel to) = fielded 4 panel to 0
event_word (Granted panel from) = fielded 5 panel from 0
event_word (Passed asker at to) = fielded 6 asker at to
event_word (Landed asker at book) = cond (nat_lt book 2) (fielded 7 asker at book) (Err UnlawfulWord)
event_word (Moved addressee at to) = fielded 8 addressee at to
event_word (Written panel entry) = fielded 9 panel 0 0
event_word (Rests panel) = fielded 10 panel 0 0
event_word (Sent panel to) = fielded 11 panel to 0
event_word (Refused number) = lawful_if (nat_lt 0 number && nat_lt number 256) (12 * 2 ^ 28 + number)

-- the second word of an event: the entry that was written
abbrev pub second_word : Event → Option ℕ
second_word (Opened highest) = None
second_word (Asked panel to) = None
second_word (Granted panel from) = None
second_word (Passed asker at to) = None
second_word (Landed asker at book) = None
second_word (Moved addressee at to) = None
second_word (Written panel entry) = Some entry
second_word (Rests panel) = None
second_word (Sent panel to) = None
second_word (Refused number) = None

-- a written event: the entry is the word that follows
abbrev pub written_of : ℕ → Bool → List ℕ → Result Event Refusal
written_of panel plain [] = Err UnlawfulWord
written_of panel plain (entry ∷ more) = lawful_if plain (Written panel entry)

-- the event of a first word's kind and three fields, where the words that follow it are `more`
abbrev pub event_of_fields : ℕ → ℕ → ℕ → ℕ → List ℕ → Result Event Refusal
event_of_fields kind a b c more =
    cond (kind == 3) (lawful_if (unused b && unused c) (Opened a))
    (cond (kind == 4) (lawful_if (unused c) (Asked a b))
    (cond (kind == 5) (lawful_if (unused c) (Granted a b))
    (cond (kind == 6) (Ok (Passed a b c))
    (cond (kind == 7) (lawful_if (nat_lt c 2) (Landed a b c))
    (cond (kind == 8) (Ok (Moved a b c))
    (cond (kind == 9) (written_of a (unused b && unused c) more)
    (cond (kind == 10) (lawful_if (unused b && unused c) (Rests a))
    (cond (kind == 11) (lawful_if (unused c) (Sent a b)) (Err UnlawfulWord)))))))))

-- the event that stands at the front of a list of words
abbrev pub event_of : List ℕ → Result Event Refusal
event_of [] = Err UnlawfulWord
event_of (w ∷ more) =
    cond (tag w == 12) (lawful_if (nat_lt 0 (below_tag w) && nat_lt (below_tag w) 256) (Refused (below_tag w)))
    (cond (unused (below_fields w)) (event_of_fields (tag w) (field_a w) (field_b w) (field_c w) more)
    (Err UnlawfulWord))

-- what was made reads back as what it was made from, whatever words follow
abbrev pub EventsReadBack : Type 0
EventsReadBack =
    (e : Event) (w : ℕ) (more : List ℕ) → event_word e ≡ Ok w → event_of (w ∷ (option_to_list (second_word e) ++ more)) ≡ Ok e

-- every lawful word is the one made from what it reads as, and so is the entry that follows it
abbrev pub EventsAreMade : Type 0
EventsAreMade =
    (w : ℕ) (more : List ℕ) (e : Event) → event_of (w ∷ more) ≡ Ok e
    → (event_word e ≡ Ok w) × (option_to_list (second_word e) ≡ take (length (option_to_list (second_word e))) more)
