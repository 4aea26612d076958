use Rattle.std.proofs.Common.{◌∙◌, ap}
use Rattle.hm_history.specs.Memory.Sequences.{some_overlap}
use Rattle.hm_race_states.specs.Small.{kept_seqs}
use Rattle.hm_race_states.specs.declared.small.SmallSeqs.{SmallSeqs}
use Rattle.hm_race_states.proofs.here.Here.overlaps.Goals as goal

pub returns-in-Start : goal.returns-in-Start
returns-in-Start c = rw (c.in-Start.is) (c.some_overlap.ensures ∙ ap (λ (q : SmallSeqs). some_overlap (kept_seqs q) c.in-Start.proc c.in-Start.span) c.deref.ensures)
