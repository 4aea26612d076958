use Rattle.std.proofs.Common.{◌≡◌, true, take}
use Rattle.hm_race_top.specs.Text.Conditions.Meets.{all_hold}
use Rattle.hm_race_top.proofs.text.conditions.judging.all_hold.Given as goal

-- those so far hold
abbrev pub invariant-loop-literal : goal.invariant-loop-literal
invariant-loop-literal l = all_hold l.lines (take l.literal-index l.literals) ≡ true
