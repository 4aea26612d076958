use Rattle.std.proofs.Common.{◌∙◌, arith}
use Rattle.hm_folds.specs.Kept.{sequences_of}
use Rattle.hm_folds.proofs.SeqSteps.{end_kept, last_ended, not_ended}
use Rattle.hm_folds.proofs.sequences.SeqState.end_guard.Goals as goal

pub returns-then-last : goal.returns-then-last
returns-then-last c =
    let x = c.args.self.now in
    end_kept x c.apply_all.new.intervals c.number.result c.number-2.result c.args.proc c.args.actor c.args.seq c.args.span c.number.ensures.same c.number-2.ensures.same (omega arith) (omega arith) c.requires
    (λ m. c.apply_all.ensures m ∙ last_ended (sequences_of x) c.args.proc m c.is_last_end-last.result c.is_last_end-last.ensures c.if-last.true)

pub returns-else-last : goal.returns-else-last
returns-else-last c =
    let x = c.args.self.now in
    end_kept x x.intervals c.number.result c.number-2.result c.args.proc c.args.actor c.args.seq c.args.span c.number.ensures.same c.number-2.ensures.same (omega arith) (omega arith) c.requires
    (λ m. not_ended (sequences_of x) c.args.proc m c.is_last_end-last.result c.is_last_end-last.ensures c.if-last.false)
