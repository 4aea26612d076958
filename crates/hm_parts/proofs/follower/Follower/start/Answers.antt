use Rattle.std.proofs.Common.{false}
use Rattle.hm_folds.proofs.SeqSteps.{all_alike}
use Rattle.hm_parts.proofs.follower.Follower.start.Goals as goal

pub returns : goal.returns
returns c = record {
  plain = c.in_ok-start-2.ensures;
  shown = c.in_ok-start-3.ensures.shown;
  owners = c.in_ok-start-3.ensures.owners;
  sequences = c.in_ok-start.ensures.start;
  pasts = c.in_ok-new.ensures;
  short = λ a. all_alike false 16 a;
}
