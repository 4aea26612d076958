use Rattle.std.proofs.Common.{◌∙◌, ap}
use Rattle.hm_race_keys.specs.Arrays.{flag_in, lock_in}
use Rattle.hm_race_keys.specs.declared.device_marks.DeviceMarks.{DeviceMarks}
use Rattle.hm_race_keys.specs.declared.map_locks.MapLocks.{MapLocks}
use Rattle.hm_race_states.proofs.start.first_actors.Goals as goal

pub returns : goal.returns
returns c = record {
  withdrawn = λ d. ap (λ (x : DeviceMarks). flag_in x.withdrawn d) c.in_ok-new.ensures.ok ∙ c.new.ensures.withdrawn d;
  removed = λ d. ap (λ (x : DeviceMarks). flag_in x.removed d) c.in_ok-new.ensures.ok ∙ c.new.ensures.removed d;
  maps = λ a. ap (λ (x : MapLocks). lock_in x.locks a) c.in_ok-new-2.ensures.ok ∙ c.new-3.ensures a;
  goings = c.in_ok-first_tasks.ensures.goings;
}
