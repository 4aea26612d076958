use Rattle.std.proofs.Common.{sym, ap, ◌∙◌}
use Rattle.std.specs.Prelude.{is_some}
use Rattle.hm_history.specs.Memory.Places.{is_for_device}
use Rattle.hm_history.specs.Memory.Plain.{mirror_dev}
use Rattle.hm_folds.proofs.PlaceAccepts.{and_else, and_then}
use Rattle.hm_flaw_states.specs.States.{plain_in}
use Rattle.hm_flaw_states.proofs.JudgedBy.{device_passes}
use Rattle.hm_flaw_states.proofs.here.FlawHere.is_for_device.Goals as goal

pub returns-then-has_mirror : goal.returns-then-has_mirror
returns-then-has_mirror c =
    let s = plain_in c.args.self.now.state.now in
    let test = is_for_device c.args.target.now in
    c.is_for_device.ensures
    ∙ (ap test c.mirror_dev.ensures
    ∙ (and_then (is_some (s.mirrors c.args.mirror)) (test (mirror_dev s c.args.mirror)) (sym c.has_mirror.ensures ∙ c.if-has_mirror.true)
    ∙ device_passes (s.mirrors c.args.mirror) test))

pub returns-else-has_mirror : goal.returns-else-has_mirror
returns-else-has_mirror c =
    let s = plain_in c.args.self.now.state.now in
    let test = is_for_device c.args.target.now in
    c.if-has_mirror.false
    ∙ (and_else (is_some (s.mirrors c.args.mirror)) (test (mirror_dev s c.args.mirror)) (sym c.has_mirror.ensures ∙ c.if-has_mirror.false)
    ∙ device_passes (s.mirrors c.args.mirror) test)
