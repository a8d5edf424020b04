-- `numbers` reads one piece a turn.
use Rattle.std.proofs.Common.{rules, map, Ok, [], ◌∷◌, ◌∙◌, sym, ap}
use Rattle.std.proofs.lemmas.List.{map-append}
use Rattle.std.proofs.lemmas.Result.{err_from_is_err_and}
use Rattle.layout.specs.Layouts.{numbers_of}
use Rattle.layout.proofs.Reading.{pieces_given, pieces_more, pieces_bad}
use Rattle.layout.proofs.Yielded.{next_item, all_items}
use Rattle.layout.proofs.read.numbers.Goals as goal

pub returns-in_err-number : goal.returns-in_err-number
returns-in_err-number c =
    let p = err_from_is_err_and c.from_residual.result c.from_residual.ensures.1 in
    let next = next_item c.loop-piece.yielded c.loop-piece.piece-iterator c.loop-piece.yielded_by (λ x. x.now)
    c.next.result c.next.new.self _ c.in-Some.is c.next.ensures.steps
    (pieces_given _ c.args.line.now c.into_iter-piece-iterator.ensures.into_iter_gives c.split-piece-items.ensures.rest c.split-piece-items.ensures.done
    c.split-piece-items.ensures.closure (λ x b q k. search rules)) in
    rw (p.1, p.2)
    (pieces_bad _ _ _ _ _ next c.loop-piece.invariant (sym c.in_err-number.ensures))

pub loop-piece-preserved : goal.loop-piece-preserved
loop-piece-preserved c =
    ap numbers_of (map-append (λ x. x.now) c.loop-piece.yielded (c.in-Some.piece ∷ []))
    ∙ pieces_more (map (λ x. x.now) c.loop-piece.yielded) c.in-Some.piece.now _ _ c.loop-piece.invariant (sym c.in_ok-number.ensures) ∙ ap Ok (sym c.in_ok-push.ensures.items)

pub returns : goal.returns
returns c =
    let all = all_items c.loop-piece.yielded c.loop-piece.piece-iterator c.loop-piece.yielded_by (λ x. x.now)
    c.next.result c.next.new.self c.in-None.is c.next.ensures.steps
    (pieces_given _ c.args.line.now c.into_iter-piece-iterator.ensures.into_iter_gives c.split-piece-items.ensures.rest c.split-piece-items.ensures.done
    c.split-piece-items.ensures.closure (λ x b q k. search rules)) in
    ap numbers_of (sym all) ∙ c.loop-piece.invariant
