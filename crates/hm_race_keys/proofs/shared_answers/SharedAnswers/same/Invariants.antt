use Rattle.std.proofs.Common.{◌≡◌, ℕ, ◌<◌}
use Rattle.hm_race_keys.specs.Trail.{answers_in}
use Rattle.hm_race_keys.proofs.shared_answers.SharedAnswers.same.Given as goal

abbrev pub invariant-loop-actor : goal.invariant-loop-actor
invariant-loop-actor l = (a : ℕ) → a < l.actor → answers_in l.self.lists.items a ≡ answers_in l.other.lists.items a
