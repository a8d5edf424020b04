-- The kind and the fields of an event word, and the word that they make. Assumes nothing.
use Rattle.std.specs.Prelude.{◌≡◌, ℕ, ◌<◌, Ok, Err, Result, ◌⊎◌}
use Rattle.words.specs.declared.refusal.Refusal.{Refusal}
use Rattle.words.specs.declared.refusal.Refusal.TheVariants.{UnlawfulWord}
use Rattle.words.specs.declared.fields.Fields.{Fields}
use Rattle.words.specs.WordKinds.{kind_number}
use Rattle.words.specs.Fields.{tag, field_a, field_b, field_c, below_fields}
use Rattle.words.specs.Events.{fielded}

-- the word of a kind and three fields
abbrev pub word_of : Fields → Result ℕ Refusal
word_of fields = fielded (kind_number fields.0) fields.1 fields.2 fields.3

-- the fields of a word
pub record FieldsOf (word : ℕ) (fields : Fields) : Type 0 where
  pub kind_is : kind_number fields.0 ≡ tag word
  pub a_is : fields.1 ≡ field_a word
  pub b_is : fields.2 ≡ field_b word
  pub c_is : fields.3 ≡ field_c word
  pub low_is : below_fields word ≡ 0

-- What taking a word apart answers.
abbrev pub Parted : ℕ → Result Fields Refusal → Type 0
Parted word (Ok fields) = FieldsOf word fields
Parted word (Err e) = ((0 < below_fields word) ⊎ ((tag word < 1) ⊎ (12 < tag word))) × (e ≡ UnlawfulWord)
