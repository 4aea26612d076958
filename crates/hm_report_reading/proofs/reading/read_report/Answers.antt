use Rattle.std.proofs.Common.{subst}
use Rattle.hm_report_front.specs.Heads.{ReadsHead}
use Rattle.std.specs.Prelude.{Err}
use Rattle.hm_report_reading.proofs.Reports.{bad_head, is_this, read_whole}
use Rattle.hm_report_reading.proofs.reading.read_report.Goals as goal
use Rattle.std.proofs.lemmas.Result.{IfOk-weaker}

pub returns-in-Ok-clause-read : goal.returns-in-Ok-clause-read
returns-in-Ok-clause-read c = IfOk-weaker c.read_behind.result _ _ (λ r read. read_whole c.args.bytes.now c.in-Ok.head.rest.now c.in-Ok.head.script c.in-Ok.head.first r (subst (ReadsHead c.args.bytes.now) c.in-Ok.is c.in_ok-head.ensures.read) read) c.read_behind.ensures.read

pub returns-in-Ok-clause-only : goal.returns-in-Ok-clause-only
returns-in-Ok-clause-only c = λ p h us has is. IfOk-weaker c.read_behind.result _ _ (λ r read. is_this c.one_text.ensures c.args.bytes.now r p h us read has is) (returns-in-Ok-clause-read c)

pub returns-in-Err-clause-read : goal.returns-in-Err-clause-read
returns-in-Err-clause-read c = bad_head c.args.bytes.now c.in-Err.bad.0 (subst (ReadsHead c.args.bytes.now) c.in-Err.is c.in_ok-head.ensures.read)

pub returns-in-Err-clause-only : goal.returns-in-Err-clause-only
returns-in-Err-clause-only c = λ p h us has is. is_this c.one_text.ensures c.args.bytes.now (Err c.in-Err.bad) p h us (returns-in-Err-clause-read c) has is
