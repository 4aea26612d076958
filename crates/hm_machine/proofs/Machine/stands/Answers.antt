use Rattle.std.proofs.Common.{◌∙◌, subst}
use Rattle.hm_history.specs.Kernel.Legal.{Legal}
use Rattle.hm_machine.proofs.Machine.stands.Goals as goal

pub returns-clause-legal : goal.returns-clause-legal
returns-clause-legal g c =
    subst (λ w. Legal w.script w.history) (c.deref.ensures ∙ c.self.view_is) (c.every_history_is_legal.ensures c.deref.result.now.script c.facts.ensures.script c.deref.result.now.history c.facts.ensures.due)
