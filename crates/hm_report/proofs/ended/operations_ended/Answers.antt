use Rattle.std.proofs.Common.{ap, ◌∙◌, arith}
use Rattle.std.proofs.lemmas.List.{take_all}
use Rattle.hm_report.specs.Ended.{ended_after}
use Rattle.hm_report.proofs.Counting.{ends_more, ends_fit}
use Rattle.hm_report.proofs.ended.operations_ended.Goals as goal

pub loop-entry-init : goal.loop-entry-init
loop-entry-init c = c.none-ends.ensures _

pub add-requires : goal.add-requires
add-requires c = ends_fit _ c.as_slice-entry-items.result.now _ c.loop-entry.entry-index c.loop-entry-test.true (omega arith) c.loop-entry.invariant

pub loop-entry-preserved : goal.loop-entry-preserved
loop-entry-preserved c = ends_more _ c.as_slice-entry-items.result.now c.loop-entry.entry-index c.entry-item.result _ c.loop-entry-test.true c.entry-item.is (c.add.ensures _ c.loop-entry.invariant)

pub returns-clause-len : goal.returns-clause-len
returns-clause-len c = c.loop-entry.invariant.operations_len

pub returns-clause-each : goal.returns-clause-each
returns-clause-each c = λ a small.
    let es = c.as_slice-entry-items.result.now in
    let i = c.loop-entry.entry-index in
    c.loop-entry.invariant.operations_are a small ∙ ap (λ h. (ended_after c.args.script.now h a).operations) (take_all i es c.loop-entry-test.false ∙ c.as_slice-entry-items.ensures)
