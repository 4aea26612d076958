use Rattle.std.proofs.Common.{map, string_bytes}
use Rattle.hm_race_top.proofs.Asking.{SoFar}
use Rattle.hm_race_top.proofs.text.conditions.question.questions_of.Given as goal

-- the conditions of the texts so far
abbrev pub invariant-loop-at : goal.invariant-loop-at
invariant-loop-at l = SoFar (map string_bytes l.texts) l.at l.questions
