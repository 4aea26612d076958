use Rattle.std.proofs.Common.{sym, ◌∙◌}
use Rattle.hm_linux_steps.proofs.Left.{shown_alike}
use Rattle.hm_linux_steps.proofs.found.left_of.Goals as goal

pub returns-else-is_less : goal.returns-else-is_less
returns-else-is_less g c = shown_alike c.args.variant (g.W.Reads.program c.args.world.now) (g.W.Reads.state c.args.world.now) (sym c.is_less.ensures ∙ c.if-is_less.false)
