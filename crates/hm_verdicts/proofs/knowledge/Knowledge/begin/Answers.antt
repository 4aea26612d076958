use Rattle.std.proofs.Common.{ap, ◌∙◌}
use Rattle.std.specs.Prelude.{Some, false, ◌++◌}
use Rattle.hm_protocol.specs.Known.{Known, Look, Stage}
use Rattle.hm_protocol.specs.Noted.{begun_last}
use Rattle.hm_verdicts.specs.Knowledge.{known_of}
use Rattle.hm_verdicts.specs.Looking.{given_up_by, early_by}
use Rattle.hm_verdicts.proofs.Fields.{begun_all}
use Rattle.hm_verdicts.proofs.LookedUp.{look_back, given_up_is}
use Rattle.hm_verdicts.proofs.knowledge.Knowledge.begin.Goals as goal

pub returns : goal.returns
returns c =
    let k : Known = known_of c.args.self.now in
    let t = c.args.thread in
    let m = c.args.mirror in
    let q = c.args.seq in
    let l : Look = k.looks t m in
    begun_all k _ _ _ _ _ _
    (c.in_ok-give_up.ensures
    ∙ (ap (λ l. k.given_up ++ given_up_by k.calls m l) c.in_ok-look.ensures.had
    ∙ ap (λ bs. k.given_up ++ bs) (given_up_is k m l)))
    (c.in_ok-note_early.ensures ∙ (ap (λ es. es ++ early_by k.calls k.at t m q false) (c.in_ok-follow.ensures
    ∙ ap (λ l. begun_last t m l k.early) c.in_ok-look.ensures.had)))
    (look_back _ _ _ _ _ _ _ c.in_ok-look.ensures.none c.in_ok-put.ensures
    (c.begin.ensures ∙ ap (λ (l : Look). record l {
      stage = Stage.Begun;
      begun = Some k.at;
      seq = q;
      itself = false;
      set = false;
    }) c.in_ok-look.ensures.had))
