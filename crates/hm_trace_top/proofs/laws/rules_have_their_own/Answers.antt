use Rattle.hm_trace_top.proofs.Own.{names_are_theirs, verdicts_are_theirs}
use Rattle.hm_trace_top.proofs.laws.rules_have_their_own.Goals as goal

pub returns : goal.returns
returns c = record { names = names_are_theirs; verdicts = verdicts_are_theirs }
