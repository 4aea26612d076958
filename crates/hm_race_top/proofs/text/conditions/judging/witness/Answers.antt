use Rattle.std.proofs.Common.{sym, ap, ◌∙◌, arith}
use Rattle.hm_race_top.specs.declared.text.block.OutcomeBlock.{OutcomeBlock}
use Rattle.hm_race_top.specs.Text.Conditions.Judged.{is_witness}
use Rattle.hm_race_top.proofs.Witness.{none_more, found_at, found_none}
use Rattle.hm_race_top.proofs.text.conditions.judging.witness.Goals as goal

pub loop-at-init : goal.loop-at-init
loop-at-init c = λ k d low. absurd (omega arith)

pub returns-then-is_witness : goal.returns-then-is_witness
returns-then-is_witness c =
    let k = c.args.condition.now in
    found_at (is_witness k) c.args.blocks.now c.loop-at.at c.index-blocks-at.result c.index-blocks-at.is c.loop-at-test.true
    (ap (λ (b : OutcomeBlock). is_witness k b.lines) c.index-blocks-at.is ∙ ap (is_witness k) (sym c.as_slice.ensures) ∙ sym c.is_witness.ensures ∙ c.if-is_witness.true) c.loop-at.invariant

pub loop-at-preserved : goal.loop-at-preserved
loop-at-preserved c =
    let k = c.args.condition.now in
    none_more (is_witness k) c.args.blocks.now c.loop-at.at c.index-blocks-at.result c.index-blocks-at.is c.loop-at-test.true
    (ap (λ (b : OutcomeBlock). is_witness k b.lines) c.index-blocks-at.is ∙ ap (is_witness k) (sym c.as_slice.ensures) ∙ sym c.is_witness.ensures ∙ c.if-is_witness.false) c.loop-at.invariant

pub returns : goal.returns
returns c = found_none (is_witness c.args.condition.now) c.args.blocks.now c.loop-at.at c.loop-at-test.false c.loop-at.invariant
