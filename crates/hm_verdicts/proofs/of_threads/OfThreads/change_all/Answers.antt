use Rattle.std.proofs.Common.{ap, ◌∙◌}
use Rattle.std.specs.Prelude.{map}
use Rattle.hm_verdicts.proofs.Defaults.{put_back}
use Rattle.hm_verdicts.proofs.of_threads.OfThreads.change_all.Goals as goal

pub returns : goal.returns
returns g c = put_back _ _ _ _ _ _ _ c.take-items.ensures.none c.in_ok-put.ensures
    (c.in_ok-change_all.ensures ∙ ap (map (g.C.Changes.made c.args.how.now)) c.take-items.ensures.had)
