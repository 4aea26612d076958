use Rattle.std.proofs.Common.{ap, ◌∙◌}
use Rattle.hm_verdicts.specs.Inner.{with_inner}
use Rattle.hm_verdicts.proofs.Defaults.{put_back}
use Rattle.hm_verdicts.proofs.of_threads.OfThreads.change_newest.Goals as goal

pub returns : goal.returns
returns g c = put_back _ _ _ _ _ _ _ c.take-items.ensures.none c.in_ok-put.ensures
    (c.in_ok-change_newest.ensures ∙ ap (with_inner (g.C.Changes.made c.args.how.now)) c.take-items.ensures.had)
