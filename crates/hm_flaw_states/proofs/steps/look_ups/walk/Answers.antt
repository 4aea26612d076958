use Rattle.std.proofs.Common.{Bool, ap, ◌∙◌}
use Rattle.hm_history.specs.Kernel.Operation.{op_writes}
use Rattle.hm_history.specs.Kernel.Due.{fault}
use Rattle.hm_flaws.specs.Overrides.{suits_any}
use Rattle.hm_flaw_states.proofs.steps.look_ups.walk.Goals as goal

pub returns : goal.returns
returns g c =
    let p = g.W.Reads.program c.args.found.now in
    let s = (g.W.Reads.state c.args.found.now).after in
    let at = c.args.at.now in
    c.fault.ensures
    ∙ ap (λ (b : Bool). fault p s c.args.actor c.args.op.now at.piece (λ x. b) at.proc at.page)
    (c.suits_any-suited.ensures ∙ (ap (λ (w : Bool). suits_any w c.place-place.result) c.op_writes.ensures ∙ ap (suits_any (op_writes c.args.op.now)) c.place-place.ensures))
