use Rattle.std.proofs.Common.{ap, ◌∙◌}
use Rattle.std.specs.Prelude.{◌++◌, if◌then◌else◌}
use Rattle.hm_protocol.specs.Known.{Known, Look}
use Rattle.hm_verdicts.specs.Knowledge.{known_of}
use Rattle.hm_verdicts.specs.Looking.{given_up_by, reads_itself, walked_by}
use Rattle.hm_verdicts.proofs.Fields.{walked_all}
use Rattle.hm_verdicts.proofs.LookedUp.{look_back, given_up_is}
use Rattle.hm_verdicts.proofs.knowledge.Knowledge.walk.Goals as goal

pub returns : goal.returns
returns c =
    let k : Known = known_of c.args.self.now in
    let t = c.args.thread in
    let m = c.args.mirror in
    let q = c.args.seq in
    let l : Look = k.looks t m in
    walked_all k _ _ _ _ _ _ _ _
    (c.in_ok-give_up_by_walk.ensures
    ∙ (ap (λ l. if reads_itself q l then k.given_up ++ given_up_by k.calls m l else k.given_up) c.in_ok-look.ensures.had
    ∙ ap (λ bs. if reads_itself q l then k.given_up ++ bs else k.given_up) (given_up_is k m l)))
    c.in_ok-note_early.ensures
    c.in_ok-learn_device.ensures
    (look_back _ _ _ _ _ _ _ c.in_ok-look.ensures.none c.in_ok-put.ensures
    (c.walk.ensures ∙ ap (walked_by k.at q) c.in_ok-look.ensures.had))
