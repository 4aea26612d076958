use Rattle.std.proofs.Common.{ap, ◌∙◌, arith}
use Rattle.hm_history.specs.Memory.Sequences.{with_stage}
use Rattle.hm_folds.specs.Kept.{stage_of}
use Rattle.hm_race_states.specs.Small.{kept_seqs}
use Rattle.hm_race_states.proofs.Betweens.{interval_kept}
use Rattle.hm_race_states.proofs.small.SmallSeqs.stand.Goals as goal

pub returns : goal.returns
returns c =
    interval_kept c.spread-next.result (kept_seqs c.args.self.now) c.number-at.result c.args.mirror c.with_stage.result _ c.spread-next.ensures c.number-at.ensures.same (omega arith)
    (c.with_stage.ensures ∙ ap (with_stage (stage_of c.args.stage)) c.interval.ensures)
