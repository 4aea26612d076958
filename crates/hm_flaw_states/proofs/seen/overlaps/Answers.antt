use Rattle.std.proofs.Common.{sym, ap, ◌∙◌}
use Rattle.std.specs.Prelude.{is_some}
use Rattle.hm_history.specs.Memory.Sequences.{overlapping}
use Rattle.hm_history.specs.Kernel.Going.{seen_overlap}
use Rattle.hm_race_states.proofs.Settled.{any_told}
use Rattle.hm_flaw_states.proofs.seen.overlaps.Goals as goal

pub returns-in-Start : goal.returns-in-Start
returns-in-Start g c =
    let s = (g.W.Reads.state c.args.world.now).after in
    c.is_some.ensures ∙ (ap is_some c.next_told.ensures ∙ (any_told (overlapping s.sequences c.in-Start.proc c.in-Start.span) ∙ sym (ap (seen_overlap s) c.in-Start.is)))
