use Rattle.hm_flaw_parts.proofs.Telling.{marks_recall}
use Rattle.hm_flaw_parts.proofs.marks_recall.Goals as goal

pub returns : goal.returns
returns c = marks_recall
