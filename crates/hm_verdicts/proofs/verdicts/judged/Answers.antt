use Rattle.std.proofs.Common.{ap, sym, subst, ◌∙◌, ◌<◌, ◌∷◌, [], ◌++◌, length, take, arith}
use Rattle.std.proofs.lemmas.List.{take_more}
use Rattle.hm_verdicts.specs.Judging.{Follows}
use Rattle.hm_verdicts.proofs.verdicts.judged.Goals as goal

pub loop-event-preserved : goal.loop-event-preserved
loop-event-preserved c =
    let es = c.args.events.now in
    let i = c.loop-event.event-index in
    let below : i < length es = omega (arith, c.loop-event-test.true) in
    subst (Follows c.add.new.self)
    (ap (λ s. take i es ++ s ∷ []) c.event-item.is ∙ sym (take_more es i c.event-item.result below))
    (c.in_ok-add.ensures.next (take i es) c.loop-event.invariant)
