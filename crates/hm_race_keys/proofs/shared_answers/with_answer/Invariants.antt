use Rattle.std.proofs.Common.{◌≡◌, take}
use Rattle.hm_race_keys.proofs.shared_answers.with_answer.Given as goal

abbrev pub invariant-loop-item : goal.invariant-loop-item
invariant-loop-item l = l.copy ≡ take l.item-index l.list
