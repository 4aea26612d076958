use Rattle.std.proofs.Common.{ap, ◌∙◌, arith}
use Rattle.hm_history.specs.Memory.Sequences.{with_stage}
use Rattle.hm_folds.specs.Kept.{stage_of}
use Rattle.hm_flaw_states.specs.Exact.{exact_in}
use Rattle.hm_flaw_states.proofs.Exacts.{interval_kept}
use Rattle.hm_flaw_states.proofs.exact_seqs.ExactSeqs.stand.Goals as goal

pub returns : goal.returns
returns c =
    interval_kept c.copied-next.result (exact_in c.args.self.now.kept) c.number-at.result c.args.mirror c.with_stage.result _ (ap exact_in c.copied-next.ensures) c.number-at.ensures.same (omega arith)
    (c.with_stage.ensures ∙ ap (with_stage (stage_of c.args.stage)) c.interval.ensures)
