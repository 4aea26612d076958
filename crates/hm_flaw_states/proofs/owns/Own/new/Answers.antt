use Rattle.std.proofs.Common.{refl}
use Rattle.std.specs.Prelude.{replicate}
use Rattle.hm_flaw_states.specs.LateSpans.{late_in}
use Rattle.hm_flaw_states.proofs.Erasing.{begun}
use Rattle.hm_flaw_states.proofs.owns.Own.new.Goals as goal

pub returns : goal.returns
returns c = begun c.new.result (replicate 32 0) (late_in c.in_ok-new.field-0.of_actors.items) c.new-3.result c.new.ensures refl c.in_ok-new.ensures c.new-3.ensures
