use Rattle.std.proofs.Common.{ap, ◌∙◌}
use Rattle.hm_verdicts.specs.Inner.{outer}
use Rattle.hm_verdicts.proofs.Defaults.{put_back}
use Rattle.hm_verdicts.proofs.of_threads.OfThreads.pop.Goals as goal

pub returns : goal.returns
returns g c = put_back _ _ _ _ _ _ _ c.take-items.ensures.none c.in_ok-put.ensures
    (c.drop_newest.ensures ∙ ap outer c.take-items.ensures.had)
