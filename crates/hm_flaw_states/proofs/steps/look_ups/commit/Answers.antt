use Rattle.std.proofs.Common.{ap, ◌∙◌}
use Rattle.hm_history.specs.Kernel.Due.{due_noted}
use Rattle.hm_history.specs.Memory.Sequences.{interval_seq}
use Rattle.hm_flaw_states.proofs.Stays.{uncompared}
use Rattle.hm_flaw_states.proofs.steps.look_ups.commit.Goals as goal

pub returns : goal.returns
returns g c =
    let s = (g.W.Reads.state c.args.found.now).after in
    c.noted.ensures
    ∙ ap (λ q. due_noted s c.args.op.now c.args.piece c.args.since q c.args.place.now) (c.interval_seq-seq.ensures ∙ ap (interval_seq s.sequences) c.op_mirror.ensures)
    ∙ uncompared s c.args.op.now c.args.piece c.args.since c.args.place.now
