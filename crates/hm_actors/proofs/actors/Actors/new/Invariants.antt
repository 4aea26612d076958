use Rattle.std.proofs.Common.{◌≡◌, [], map}
use Rattle.hm_actors.specs.Actors.{first_tasks}
use Rattle.hm_actors.specs.Migrations.{task_shown}
use Rattle.hm_actors.proofs.KeysKept.{NoKeys}
use Rattle.hm_actors.proofs.actors.Actors.new.Given as goal

abbrev pub invariant-loop-at : goal.invariant-loop-at
invariant-loop-at l = record {
  none : NoKeys l.tasks.items;
  shown : map (task_shown (record { slots = []; vacant_key = 0; capacity = 0 })) l.tasks.items ≡ first_tasks l.script l.at;
}
