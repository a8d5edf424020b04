-- `quote_all` quotes one line a turn.
use Rattle.std.proofs.Common.{rules, ◌≡◌, ◌++◌, eqb, ap, ◌∙◌, string_bytes}
use Rattle.std.specs.Slice.Iter.{split_inclusive_rest}
use Rattle.std.proofs.lemmas.Fn.{always_returns_same}
use Rattle.layout.specs.Tables.{quoted, quoted_text}
use Rattle.layout.proofs.Quoting.{quoted_turn}
use Rattle.layout.proofs.quote.quote_all.Goals as goal

pub loop-line-preserved : goal.loop-line-preserved
loop-line-preserved c =
    let step = c.in-Some.ensures.steps in
    let cut = step.1.2 (λ b. eqb b 10) (always_returns_same _ (λ a r. r ≡ eqb a.0.now 10) _ (λ a r q k. search rules)) in
    quoted_turn (split_inclusive_rest c.loop-line.line-iterator) (split_inclusive_rest c.next.new.self) c.in-Some.line c.strip_suffix.result
    step.1.0 step.0 step.1.1 cut.1 step.2 c.strip_suffix.ensures.cases
    (quoted_text c.args.text.now) (string_bytes c.loop-line.out) (string_bytes c.write_quote.new.out) c.loop-line.invariant
    (c.in_ok-write_quote.ensures ∙ ap (λ l. string_bytes c.loop-line.out ++ quoted l.now) c.unwrap_or-content.ensures)
