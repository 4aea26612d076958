use Rattle.std.proofs.Common.{ap, sym, subst, ◌∙◌}
use Rattle.std.specs.Prelude.{option_copied}
use Rattle.hm_base.specs.Program.{IsScript}
use Rattle.hm_steps.proofs.Ops.{op_ranged}
use Rattle.hm_steps.proofs.due.Goals as goal

pub due_phase-requires-clause-op : goal.due_phase-requires-clause-op
due_phase-requires-clause-op g c = op_ranged _ _ _ _ (subst IsScript c.script.ensures c.facts.ensures) (sym c.op.ensures ∙ ap option_copied c.in-Some.is)
