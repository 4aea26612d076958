use Rattle.std.proofs.Common.{ap, ◌∙◌}
use Rattle.std.specs.Prelude.{◌∷◌}
use Rattle.hm_verdicts.proofs.Defaults.{put_back}
use Rattle.hm_verdicts.proofs.of_threads.OfThreads.push.Goals as goal

pub returns : goal.returns
returns g c = put_back _ _ _ _ _ _ _ c.take-items.ensures.none c.in_ok-put.ensures
    (c.in_ok-push.ensures ∙ ap (λ ys. c.args.item ∷ ys) c.take-items.ensures.had)
