use Rattle.std.proofs.Common.{ap, ◌∙◌}
use Rattle.hm_protocol.specs.Words.{drop_if}
use Rattle.hm_verdicts.proofs.Defaults.{put_back}
use Rattle.hm_verdicts.proofs.of_threads.OfThreads.drop_if.Goals as goal

pub returns : goal.returns
returns g c = put_back _ _ _ _ _ _ _ c.take-items.ensures.none c.in_ok-put.ensures
    (c.drop_if.ensures ∙ ap (drop_if (g.P.Passes.test c.args.test.now)) c.take-items.ensures.had)
