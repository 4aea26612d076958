use Rattle.std.proofs.Common.{ap, ◌∙◌}
use Rattle.hm_history.specs.Memory.Places.{places_start, lowest_free}
use Rattle.hm_race_keys.specs.Arrays.{flag_in}
use Rattle.hm_race_keys.specs.FrameTables.{held_in}
use Rattle.hm_race_keys.specs.declared.device_marks.DeviceMarks.{DeviceMarks}
use Rattle.hm_flaw_states.specs.States.{state_in}
use Rattle.hm_race_states.proofs.Askings.{free_same}
use Rattle.hm_flaw_states.proofs.here.FlawHereReads.lowest_free.Goals as goal

pub returns : goal.returns
returns c =
    let x = c.args.self.now in
    c.lowest_free.ensures
    ∙ ap (λ h. lowest_free x.script.now (record places_start { held = held_in h; withdrawn = flag_in c.deref-2.result.now.withdrawn }) c.args.pool) c.deref.ensures
    ∙ ap (λ (m : DeviceMarks). lowest_free x.script.now (record places_start { held = held_in x.state.now.held.value; withdrawn = flag_in m.withdrawn }) c.args.pool) c.deref-2.ensures
    ∙ free_same x.script.now (state_in x.state.now).after.places c.args.pool
