use Rattle.std.proofs.Common.{ap, ◌∙◌}
use Rattle.hm_history.specs.Memory.Words.{least}
use Rattle.hm_spaces.specs.Holders.{is_other}
use Rattle.hm_race_keys.specs.declared.map_locks.MapLocks.{MapLocks}
use Rattle.hm_flaw_states.proofs.here.FlawHereReads.lowest_other.Goals as goal

pub returns : goal.returns
returns c = c.lowest_other.ensures ∙ ap (λ (x : MapLocks). least (is_other x.locks c.args.proc c.args.actor) 0 16) c.deref.ensures
