use Rattle.std.proofs.Common.{ap, ◌∙◌}
use mir.Val.{bool_byte}
use Rattle.arrow.specs.Mask.{waiting_bit}
use Rattle.group.proofs.Waits.{bit_is, word_next}
use Rattle.group.proofs.memory.Group.waiting.Goals as goal

pub loop-v-preserved : goal.loop-v-preserved
loop-v-preserved g c =
    word_next c.each-panel-items.result.now c.loop-v.v c.loop-v.word c.from.result c.panel-item.result c.loop-v-test.true c.each-panel-items.ensures.few
    c.loop-v.invariant (c.from.ensures ∙ ap bool_byte c.eq.ensures ∙ bit_is c.panel-item.result.state ∙ ap (λ p. waiting_bit p.state) c.panel-item.is)
