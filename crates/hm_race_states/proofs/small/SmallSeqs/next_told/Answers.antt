use Rattle.std.proofs.Common.{Option, List, filter, ap, ◌∙◌}
use Rattle.std.specs.Prelude.{find}
use Rattle.hm_folds.specs.Kept.{overlaps_at}
use Rattle.hm_folds.specs.declared.intervals.KeptInterval.{KeptInterval}
use Rattle.hm_history.specs.Memory.Sequences.{is_above}
use Rattle.hm_history.specs.Memory.Words.{numbers}
use Rattle.hm_race_states.proofs.small.SmallSeqs.next_told.Goals as goal

pub returns : goal.returns
returns c = c.next_told.ensures ∙ ap (λ (xs : List (Option KeptInterval)). find (is_above c.args.after) (filter (overlaps_at xs c.args.proc c.args.span) (numbers 0 32))) c.deref.ensures.value
