use Rattle.std.proofs.Common.{ap, ◌∙◌}
use Rattle.hm_history.specs.Memory.Words.{least}
use Rattle.hm_spaces.specs.Holders.{is_writer}
use Rattle.hm_race_keys.specs.declared.map_locks.MapLocks.{MapLocks}
use Rattle.hm_flaw_states.proofs.here.FlawHereReads.writer.Goals as goal

pub returns : goal.returns
returns c = c.writer.ensures ∙ ap (λ (x : MapLocks). least (is_writer x.locks c.args.proc) 0 16) c.deref.ensures
