use Rattle.hm_flaw_states.proofs.Compared.{alike_owns, one_driver}
use Rattle.hm_flaw_states.proofs.kept_owns.same_own.Goals as goal

pub returns-clause-alike : goal.returns-clause-alike
returns-clause-alike c e = one_driver c.args.one.now c.args.other.now (c.same_parts.ensures.yes e)

pub returns-clause-apart : goal.returns-clause-apart
returns-clause-apart c e = c.same_parts.ensures.no (alike_owns c.args.one.now c.args.other.now e)
