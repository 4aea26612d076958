use Rattle.std.proofs.Common.{arith}
use Rattle.hm_folds.specs.Kept.{has_mirror, overlaps_at}
use Rattle.hm_folds.proofs.Sets.{same_set}
use Rattle.hm_folds.proofs.intervals.overlapping.Goals as goal

pub returns : goal.returns
returns c = same_set (has_mirror c.loop-number.set) (overlaps_at c.args.intervals.now c.args.proc c.args.span) 0 32 (λ k l m. c.loop-number.invariant.so_far k (omega arith))
