use Rattle.hm_race_top.proofs.Texts.{one_block}
use Rattle.hm_race_top.proofs.text.outcomes.add_blocks.Goals as goal

pub loop-at-preserved : goal.loop-at-preserved
loop-at-preserved c =
    one_block c.args.blocks.now c.loop-at.at c.index-blocks-at.result c.args.text.now c.loop-at.text c.add_outcome.new.text
    c.loop-at-test.true c.index-blocks-at.is c.loop-at.invariant c.in_ok-add_outcome.ensures
