use Rattle.std.proofs.Common.{subst}
use Rattle.hm_report_front.specs.Heads.{ReadsHead}
use Rattle.hm_judge.proofs.Telling.{behind_head, head_is}
use Rattle.hm_judge.proofs.verdict.judge_bytes.Goals as goal
use Rattle.std.proofs.lemmas.Result.{IfOk-weaker}

pub returns-in-Ok : goal.returns-in-Ok
returns-in-Ok c = IfOk-weaker c.judge_behind.result _ _ (λ j judged. behind_head c.args.bytes.now c.in-Ok.head.rest.now c.in-Ok.head.script c.in-Ok.head.first j (subst (ReadsHead c.args.bytes.now) c.in-Ok.is c.in_ok-head.ensures.read) judged) c.judge_behind.ensures

pub returns-in_ok-bad-in-Err : goal.returns-in_ok-bad-in-Err
returns-in_ok-bad-in-Err c = head_is c.one_text.ensures c.args.bytes.now c.in_ok-bad-in-Err.bad c.in_ok-bad-in-Err.ensures
