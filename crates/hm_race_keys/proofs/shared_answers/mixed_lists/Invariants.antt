use Rattle.std.proofs.Common.{◌≡◌, drop}
use Rattle.hm_race_keys.specs.Answers.{mixed_lists}
use Rattle.hm_race_keys.proofs.shared_answers.mixed_lists.Given as goal

abbrev pub invariant-loop-list : goal.invariant-loop-list
invariant-loop-list l = mixed_lists l.total (drop l.list-index l.lists) ≡ mixed_lists l.sum l.lists
