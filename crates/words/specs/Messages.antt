-- Message words: what travels at the head of a parcel. Assumes nothing.
use Rattle.std.specs.Prelude.{◌≡◌, ℕ, ◌+◌, ◌*◌, ◌^◌, cond, Ok, Err, Result, ◌==◌}
use Rattle.words.specs.Fields.{tag, below_tag, fits}
use Rattle.words.specs.declared.refusal.Refusal.{Refusal}
use Rattle.words.specs.declared.refusal.Refusal.TheVariants.{UnlawfulWord}
use Rattle.words.specs.declared.message.Message.{Message}
use Rattle.words.specs.declared.message.Message.TheVariants.{Find, Book}

-- the word of a message: find is 1, book is 2, each with the panel that it names in its low bits
abbrev pub message_word : Message → Result ℕ Refusal
message_word (Find asker) = cond (fits asker) (Ok (1 * 2 ^ 28 + asker)) (Err UnlawfulWord)
message_word (Book addressee) = cond (fits addressee) (Ok (2 * 2 ^ 28 + addressee)) (Err UnlawfulWord)

-- the message that a word stands for
abbrev pub message_of : ℕ → Result Message Refusal
message_of w =
    cond (fits (below_tag w))
    (cond (tag w == 1) (Ok (Find (below_tag w))) (cond (tag w == 2) (Ok (Book (below_tag w))) (Err UnlawfulWord)))
    (Err UnlawfulWord)

-- what was made reads back as what it was made from
abbrev pub MessagesReadBack : Type 0
MessagesReadBack = (m : Message) (w : ℕ) → message_word m ≡ Ok w → message_of w ≡ Ok m

-- every lawful word is the one made from what it reads as
abbrev pub MessagesAreMade : Type 0
MessagesAreMade = (w : ℕ) (m : Message) → message_of w ≡ Ok m → message_word m ≡ Ok w
