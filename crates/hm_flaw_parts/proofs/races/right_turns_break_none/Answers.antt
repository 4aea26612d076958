use Rattle.hm_flaw_parts.proofs.Rightly.{right_turns_break_none}
use Rattle.hm_flaw_parts.proofs.races.right_turns_break_none.Goals as goal

pub returns : goal.returns
returns c = right_turns_break_none c.broken_turns_break.ensures c.right_breaks_none.ensures
