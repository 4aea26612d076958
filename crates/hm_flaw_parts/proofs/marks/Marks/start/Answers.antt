use Rattle.std.proofs.Common.{false, rules}
use Rattle.hm_folds.proofs.SeqSteps.{all_alike}
use Rattle.hm_flaw_parts.proofs.Marking.{marks_from}
use Rattle.hm_flaw_parts.specs.Marks.{marked_start}
use Rattle.hm_flaw_parts.proofs.marks.Marks.start.Goals as goal

pub returns : goal.returns
returns c = marks_from _ marked_start (λ a m. search rules) (search rules) (λ m v. search rules) (λ a. all_alike false 16 a)
