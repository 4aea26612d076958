use Rattle.std.proofs.Common.{sym, ap, ◌∙◌}
use Rattle.hm_history.specs.Memory.Words.{with_at}
use Rattle.hm_history.specs.Memory.Sequences.{sequences_next}
use Rattle.hm_history.specs.declared.Kind.{Kind}
use Rattle.hm_flaw_states.specs.Guards.{guarded_in, guards_in}
use Rattle.hm_flaw_states.proofs.guards.ActorGuards.step.Goals as goal

pub returns-in_ok-new-in-Start : goal.returns-in_ok-new-in-Start
returns-in_ok-new-in-Start c =
    c.set.ensures
    ∙ (ap (with_at (guards_in c.args.self.now.guards.items) c.args.actor) c.in_ok-new-in-Start.ensures
    ∙ sym (ap (λ (k : Kind). (sequences_next (guarded_in c.args.seqs.now c.args.self.now.guards.items) c.args.actor k).guard) c.in-Start.is))
