use Rattle.hm_race_top.specs.Text.Laws.{lines_of}
use Rattle.hm_race_top.specs.Text.Conditions.Judged.{is_witness}
use Rattle.hm_race_top.proofs.Witness.{NoneBefore}
use Rattle.hm_race_top.proofs.text.conditions.judging.witness.Given as goal

-- none so far decides alone
abbrev pub invariant-loop-at : goal.invariant-loop-at
invariant-loop-at l = NoneBefore (is_witness l.condition) (lines_of l.blocks) l.at
