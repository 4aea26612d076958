use Rattle.std.proofs.Common.{◌≡◌, drop}
use Rattle.hm_race_keys.specs.Answers.{mixed_kinds}
use Rattle.hm_race_keys.proofs.shared_answers.mixed_kinds.Given as goal

abbrev pub invariant-loop-answer : goal.invariant-loop-answer
invariant-loop-answer l = mixed_kinds l.total (drop l.answer-index l.answers) ≡ mixed_kinds l.sum l.answers
