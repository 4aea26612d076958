use Rattle.std.proofs.Common.{Bool, if◌then◌else◌, sym, ap, ◌∙◌}
use Rattle.hm_phases.specs.Items.{phases_of}
use Rattle.hm_flaw_states.specs.Rooms.{without_top}
use Rattle.hm_flaw_states.proofs.Leaving.{left_out}
use Rattle.hm_flaw_states.proofs.stacks.without_step.Goals as goal

pub returns-then-leaves_out : goal.returns-then-leaves_out
returns-then-leaves_out c =
    let st = phases_of c.args.items in
    c.without_top.ensures ∙ (ap (λ (b : Bool). if b then without_top st else st) (sym (sym c.leaves_out.ensures ∙ c.if-leaves_out.true)) ∙ left_out c.args.flaw st c.in_default.not-OthersLeft c.in_default.not-FrozenLate)

pub returns-else-leaves_out : goal.returns-else-leaves_out
returns-else-leaves_out c =
    let st = phases_of c.args.items in
    ap (λ (b : Bool). if b then without_top st else st) (sym (sym c.leaves_out.ensures ∙ c.if-leaves_out.false)) ∙ left_out c.args.flaw st c.in_default.not-OthersLeft c.in_default.not-FrozenLate
