use Rattle.std.proofs.Common.{ap, ◌∙◌}
use Rattle.hm_race_keys.specs.Arrays.{flag_in}
use Rattle.hm_race_keys.specs.declared.device_marks.DeviceMarks.{DeviceMarks}
use Rattle.hm_flaw_states.proofs.groups.first_devices.Goals as goal

pub returns : goal.returns
returns c = record {
  withdrawn = λ d. ap (λ (x : DeviceMarks). flag_in x.withdrawn d) c.in_ok-new.ensures.ok ∙ c.new.ensures.withdrawn d;
  removed = λ d. ap (λ (x : DeviceMarks). flag_in x.removed d) c.in_ok-new.ensures.ok ∙ c.new.ensures.removed d;
  tables = c.in_ok-new-2.ensures.ok ∙ c.new-3.ensures;
  contents = c.in_ok-new-3.ensures.ok ∙ c.new-5.ensures;
}
