use Rattle.std.proofs.Common.{subst, ap}
use Rattle.hm_script.specs.declared.reason.Refused.{Refused}
use Rattle.hm_report_front.specs.Parts.{FrontOf}
use Rattle.hm_report_front.proofs.Heads.{bad_script, no_line, goes_on}
use Rattle.hm_report_front.proofs.head.read_head.Goals as goal

pub returns-in-Err-Refused-clause-read : goal.returns-in-Err-Refused-clause-read
returns-in-Err-Refused-clause-read c =
    bad_script c.args.bytes.now c.cut_front-front.result.script.now c.cut_front-front.result.rest c.in-Err-Refused.refused.line _ c.cut_front-front.ensures.parts (rw c.in-Err-Refused.field-0-is at c.in-Err-Refused.ensures.first) (ap (λ (r : Refused). r.line) c.in-Err-Refused.refused-is)

pub returns-in-Some-clause-read : goal.returns-in-Some-clause-read
returns-in-Some-clause-read c = goes_on c.args.bytes.now c.cut_front-front.result.script.now c.in-Some.rest c.in-Ok.script c.cut_front-front.result.lines c.facts.ensures (subst (FrontOf c.args.bytes.now c.cut_front-front.result.script.now) c.in-Some.is c.cut_front-front.ensures.parts) c.in-Ok.ensures.found c.cut_front-front.ensures.count

pub returns-clause-read : goal.returns-clause-read
returns-clause-read c = no_line c.args.bytes.now c.cut_front-front.result.script.now c.in-Ok.script c.cut_front-front.result.lines c.facts.ensures (subst (FrontOf c.args.bytes.now c.cut_front-front.result.script.now) c.in-None.is c.cut_front-front.ensures.parts) c.in-Ok.ensures.found c.cut_front-front.ensures.count
