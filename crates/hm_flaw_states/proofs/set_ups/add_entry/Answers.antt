use Rattle.hm_flaw_states.proofs.SetUps.{more_after}
use Rattle.hm_flaw_states.proofs.set_ups.add_entry.Goals as goal

pub returns : goal.returns
returns c = λ h r. more_after c.args.script.now h c.args.so_far.now _ c.args.entry r c.in_ok-state.ensures.next c.in_ok-marks.ensures c.in_ok-state.ensures.standing
