use Rattle.std.proofs.Common.{ap, ◌∙◌}
use Rattle.std.specs.Prelude.{Some, None, if◌then◌else◌}
use Rattle.hm_protocol.specs.Known.{Known, Look, Stage}
use Rattle.hm_verdicts.specs.Knowledge.{known_of}
use Rattle.hm_verdicts.proofs.LookedUp.{look_back}
use Rattle.hm_verdicts.proofs.knowledge.Knowledge.walked.Goals as goal

pub returns : goal.returns
returns c =
    let k : Known = known_of c.args.self.now in
    ap (λ f. record k { looks = f }) (look_back _ _ _ _ _ _ _ c.in_ok-look.ensures.none c.in_ok-put.ensures
    (c.end_walk.ensures ∙ ap (λ (l : Look). record l {
      stage = Stage.Walked;
      walked = if c.args.done then Some k.at else None;
    }) c.in_ok-look.ensures.had))
