-- What is written, and what the rest of the text gives, are the whole.
use Rattle.std.proofs.Common.{◌≡◌, ◌++◌, string_bytes}
use Rattle.std.specs.Slice.Iter.{split_inclusive_rest}
use Rattle.layout.specs.Tables.{quoted_text}
use Rattle.layout.proofs.quote.quote_all.Given as goal

abbrev pub invariant-loop-line : goal.invariant-loop-line
invariant-loop-line l = quoted_text l.text ≡ string_bytes l.out ++ quoted_text (split_inclusive_rest l.line-iterator)
