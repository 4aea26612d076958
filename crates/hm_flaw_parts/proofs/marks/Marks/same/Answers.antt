use Rattle.hm_flaw_parts.proofs.Alike.{alike_marks, one_marks}
use Rattle.hm_flaw_parts.proofs.marks.Marks.same.Goals as goal

pub returns-clause-alike : goal.returns-clause-alike
returns-clause-alike c e = one_marks c.args.self.now c.args.other.now (c.same_parts.ensures.yes e)

pub returns-clause-apart : goal.returns-clause-apart
returns-clause-apart c e = c.same_parts.ensures.no (alike_marks c.args.self.now c.args.other.now e)
