use Rattle.std.proofs.Common.{◌≡◌, false, take}
use Rattle.hm_race_top.specs.Text.Conditions.Meets.{meets}
use Rattle.hm_race_top.proofs.text.conditions.judging.meets.Given as goal

-- none of the alternatives so far holds
abbrev pub invariant-loop-literals : goal.invariant-loop-literals
invariant-loop-literals l = meets (take l.literals-index l.condition.body) l.lines ≡ false
