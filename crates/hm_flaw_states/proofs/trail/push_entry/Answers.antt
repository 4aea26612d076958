use Rattle.std.proofs.Common.{refl}
use Rattle.hm_flaw_states.proofs.Trails.{longer_by}
use Rattle.hm_flaw_states.proofs.trail.push_entry.Goals as goal

pub returns : goal.returns
returns c = longer_by _ _ c.in_ok-entry.entry _ _ c.in_ok-push.ensures.items refl c.in_ok-entry.ensures.ok
