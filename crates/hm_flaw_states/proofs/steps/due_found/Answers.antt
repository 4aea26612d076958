use Rattle.std.proofs.Common.{ap, sym, subst, ◌∙◌}
use Rattle.std.specs.Prelude.{option_copied}
use Rattle.hm_base.specs.Program.{IsScript}
use Rattle.hm_steps.proofs.Ops.{op_ranged}
use Rattle.hm_flaw_states.proofs.steps.due_found.Goals as goal

pub due_at-requires-clause-range : goal.due_at-requires-clause-range
due_at-requires-clause-range g c = op_ranged _ _ _ _ (subst IsScript c.script.ensures c.facts.ensures) (sym c.op.ensures ∙ ap option_copied c.in-Some.is)
