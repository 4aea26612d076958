use Rattle.std.proofs.Common.{◌≡◌, ℕ, [], length}
use Rattle.hm_race_keys.specs.Trail.{answers_in}
use Rattle.hm_race_keys.proofs.shared_answers.SharedAnswers.new.Given as goal

abbrev pub invariant-loop : goal.invariant-loop
invariant-loop l = record {
  len : length l.lists.items ≡ l.counter;
  none : (a : ℕ) → answers_in l.lists.items a ≡ [];
}
