use Rattle.std.proofs.Common.{◌≡◌, take}
use Rattle.hm_race_keys.proofs.shared_answers.SharedAnswers.copy.Given as goal

abbrev pub invariant-loop-actor : goal.invariant-loop-actor
invariant-loop-actor l = l.lists.items ≡ take l.actor l.self.lists.items
