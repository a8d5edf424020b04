-- What is left of the zeros. Assumes nothing.
use Rattle.std.proofs.Common.{◌++◌, ◌∙◌, ◌-◌, ap, replicate}
use Rattle.std.proofs.lemmas.List.{drop-replicate}
use Rattle.notice_book.proofs.text.Text.padded.Goals as goal

pub returns : goal.returns
returns c = λ i. (c.copy_from_slice.ensures.after ∙ c.deref.ensures.0) i ++ (drop-replicate c.len.result 64 0 ∙ ap (λ n. replicate (64 - n) 0) c.len.ensures.value) i
