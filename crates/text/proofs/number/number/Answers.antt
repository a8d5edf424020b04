use Rattle.std.proofs.Common.{rules, ◌^◌, ◌<◌}
use Rattle.std.proofs.lemmas.Iterator.{YieldsList-from_slice}
use Rattle.text.proofs.Numbers.{read_small, read_ends}
use Rattle.text.proofs.number.number.Goals as goal

pub try_fold-requires-clause-callable : goal.try_fold-requires-clause-callable
try_fold-requires-clause-callable c =
    record {
      at = λ xs t q x u given turns step.
          let small : q.1 < 10 ^ 6
          = read_small _ (λ p r y k. search rules) c.args.digits.now (YieldsList-from_slice {s = c.iter.result} c.args.digits.now c.iter.ensures.rest) _ xs t given q turns
          x u step (search rules) in
          search rules;
    }

pub returns : goal.returns
returns c =
    let ran = c.try_fold.ensures.ran in
    read_ends _ (λ p r y k. search rules) c.args.digits.now (YieldsList-from_slice {s = c.iter.result} c.args.digits.now c.iter.ensures.rest) _ ran.0 ran.4.0 ran.4.1 (ran.2, ran.3) ran.5
    ran.1 _ ran.4.2 c.try_fold.result ran.6 (λ x k. search rules) (search rules) (search rules)
