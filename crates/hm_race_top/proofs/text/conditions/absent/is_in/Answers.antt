use Rattle.std.proofs.Common.{sym, ap, ◌∙◌}
use Rattle.hm_race_top.specs.Text.Conditions.Meets.{has_line}
use Rattle.hm_race_top.proofs.Witness.{any_block}
use Rattle.hm_race_top.proofs.text.conditions.absent.is_in.Goals as goal

pub returns-then-has_line : goal.returns-then-has_line
returns-then-has_line c =
    let line = c.args.line.now in
    sym (any_block (λ x. has_line x line) c.args.blocks.now c.loop-block.block-index c.block-item.result c.block-item.is c.loop-block-test.true
    (ap (λ x. has_line x line) (sym c.as_slice.ensures) ∙ sym c.has_line.ensures ∙ c.if-has_line.true))
