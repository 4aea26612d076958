use Rattle.std.proofs.Common.{subst}
use Rattle.hm_report_front.specs.Heads.{ReadsHead}
use Rattle.hm_check.specs.declared.verdict.Verdict.TheVariants.{No}
use Rattle.hm_check.proofs.Exact.{judged_head, judged_behind, is_yes}
use Rattle.hm_check.proofs.verdict.check.Goals as goal
use Rattle.std.proofs.lemmas.Result.{IfOk-weaker}

pub returns-in-Err-clause-judged : goal.returns-in-Err-clause-judged
returns-in-Err-clause-judged c = judged_head c.args.bytes.now c.in-Err.bad.0 (subst (ReadsHead c.args.bytes.now) c.in-Err.is c.in_ok-head.ensures.read)

pub returns-in-Err-clause-only : goal.returns-in-Err-clause-only
returns-in-Err-clause-only c = λ p h legal is. is_yes c.one_text.ensures c.args.bytes.now (No _) p h (returns-in-Err-clause-judged c) legal is

pub returns-in-Ok-clause-judged : goal.returns-in-Ok-clause-judged
returns-in-Ok-clause-judged c = IfOk-weaker c.judge.result _ _ (λ v judged. judged_behind c.args.bytes.now c.in-Ok.head.rest.now c.in-Ok.head.script c.in-Ok.head.first v (subst (ReadsHead c.args.bytes.now) c.in-Ok.is c.in_ok-head.ensures.read) judged) c.judge.ensures

pub returns-in-Ok-clause-only : goal.returns-in-Ok-clause-only
returns-in-Ok-clause-only c = λ p h legal is. IfOk-weaker c.judge.result _ _ (λ v judged. is_yes c.one_text.ensures c.args.bytes.now v p h judged legal is) (returns-in-Ok-clause-judged c)
