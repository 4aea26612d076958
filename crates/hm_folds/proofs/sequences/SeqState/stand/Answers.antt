use Rattle.std.proofs.Common.{ap, ◌∙◌, arith}
use Rattle.hm_folds.proofs.SeqSteps.{interval_kept}
use Rattle.hm_folds.proofs.Writes.{read_at}
use Rattle.hm_history.specs.Memory.Sequences.{with_stage}
use Rattle.hm_folds.specs.Kept.{interval_of, stage_of}
use Rattle.hm_folds.proofs.sequences.SeqState.stand.Goals as goal

pub returns : goal.returns
returns c =
    let x = c.args.self.now in
    interval_kept x c.number-at.result c.args.mirror c.with_stage.result _ c.number-at.ensures.same (omega arith)
    (c.with_stage.ensures ∙ ap (with_stage (stage_of c.args.stage)) (read_at interval_of x.intervals c.number-at.result c.args.mirror _ c.number-at.ensures.same (omega arith)))
