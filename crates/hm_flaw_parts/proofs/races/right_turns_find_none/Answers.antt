use Rattle.hm_flaw_parts.proofs.Rightly.{right_turns_find_none}
use Rattle.hm_flaw_parts.proofs.races.right_turns_find_none.Goals as goal

pub returns : goal.returns
returns c = right_turns_find_none c.right_turns_break_none.ensures c.stuck_turns_stick.ensures c.never_stuck.ensures
