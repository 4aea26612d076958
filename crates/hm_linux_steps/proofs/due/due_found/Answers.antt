use Rattle.std.proofs.Common.{ap, sym, subst, ◌∙◌}
use Rattle.std.specs.Prelude.{option_copied}
use Rattle.hm_base.specs.Program.{IsScript}
use Rattle.hm_steps.proofs.Ops.{op_ranged}
use Rattle.hm_linux_steps.proofs.due.due_found.Goals as goal

pub varied-requires-clause-range : goal.varied-requires-clause-range
varied-requires-clause-range g c = op_ranged _ _ _ _ (subst IsScript c.script.ensures c.facts.ensures) (sym c.op.ensures ∙ ap option_copied c.in-Some.is)

pub varied-requires-in-Waiting-clause-range : goal.varied-requires-in-Waiting-clause-range
varied-requires-in-Waiting-clause-range g c = op_ranged _ _ _ _ (subst IsScript c.script.ensures c.facts.ensures) (sym c.op.ensures ∙ ap option_copied c.in-Some.is)
