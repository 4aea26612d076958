use Rattle.std.proofs.Common.{sym, subst, ap, ◌∙◌}
use Rattle.hm_folds.specs.Ranges.{IsSized}
use Rattle.hm_folds.specs.Plain.{plain_made}
use Rattle.hm_folds.proofs.PlainParts.{plain_steps}
use Rattle.hm_folds.proofs.AreaEnds.{sized_step}
use Rattle.hm_folds.proofs.plain.PlainState.step.Goals as goal

pub invariant_of-self : goal.invariant_of-self
invariant_of-self c = record { sized = subst IsSized (sym c.step.ensures.next) (sized_step c.args.self.now.spaces c.args.actor c.args.kind.now c.args.self.now.sized c.facts_of.ensures) }

pub returns : goal.returns
returns c =
    let x = c.args.self.now in
    let ys = x.memory.processes.items in
    ap (λ z. plain_made z c.step_been.new.been ys c.step-2.new.mirrors) c.step.ensures.next
    ∙ plain_steps x.spaces x.been c.step_been.new.been ys x.mirrors c.step-2.new.mirrors c.args.actor c.args.kind.now x.sized c.facts_of.ensures c.step_been.ensures c.step-2.ensures
