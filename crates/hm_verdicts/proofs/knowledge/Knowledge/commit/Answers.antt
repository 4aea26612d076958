use Rattle.std.proofs.Common.{ap, ◌∙◌}
use Rattle.std.specs.Prelude.{true, ◌++◌}
use Rattle.hm_protocol.specs.Known.{Known, Look}
use Rattle.hm_verdicts.specs.Knowledge.{known_of}
use Rattle.hm_verdicts.specs.Looking.{stale_by}
use Rattle.hm_verdicts.proofs.Fields.{committed}
use Rattle.hm_verdicts.proofs.LookedUp.{look_back, stale_is}
use Rattle.hm_verdicts.proofs.knowledge.Knowledge.commit.Goals as goal

pub returns : goal.returns
returns c =
    let k : Known = known_of c.args.self.now in
    let m = c.args.mirror in
    let l : Look = k.looks c.args.thread m in
    committed k _ _ _ _
    (c.in_ok-note_stale.ensures
    ∙ (ap (λ l. k.stale ++ stale_by k.calls k.at m l) c.in_ok-look.ensures.had ∙ stale_is k.calls k.at m l k.stale))
    (look_back _ _ _ _ _ _ _ c.in_ok-look.ensures.none c.in_ok-put.ensures
    (c.commit.ensures ∙ ap (λ (l : Look). record l { set = true }) c.in_ok-look.ensures.had))
