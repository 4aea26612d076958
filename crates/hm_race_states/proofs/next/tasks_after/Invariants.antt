use Rattle.std.proofs.Common.{◌≡◌, ℕ, ◌<◌, length, map}
use Rattle.std.specs.Rc.{rc_value}
use Rattle.hm_race_states.specs.States.{goings_in}
use Rattle.hm_race_states.specs.Tasks.{going_in}
use Rattle.hm_race_states.specs.Goings.{blurred_goings, goings_with}
use Rattle.hm_race_states.proofs.next.tasks_after.Given as goal

abbrev pub invariant-loop-at : goal.invariant-loop-at
invariant-loop-at g l = record {
  len : length (map rc_value l.all.items) ≡ l.at;
  at : (a : ℕ) → a < l.at → goings_in (map rc_value l.all.items) a ≡ blurred_goings l.script (g.C.Came.seqs l.came) (goings_with (map rc_value l.tasks) l.actor (going_in l.moved.value)) a;
}
