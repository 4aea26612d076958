use Rattle.std.proofs.Common.{◌≡◌, length, map, take}
use Rattle.std.specs.Rc.{rc_value}
use Rattle.hm_flaw_states.proofs.next.shared.Given as goal

abbrev pub invariant-loop-at : goal.invariant-loop-at
invariant-loop-at l = record {
  len : length l.all.items ≡ l.at;
  same : map rc_value l.all.items ≡ map rc_value (take l.at l.tasks);
}
