use Rattle.std.proofs.Common.{◌≡◌, true, take}
use Rattle.hm_race_top.specs.Text.Conditions.Asking.{may_ask_all}
use Rattle.hm_race_top.proofs.text.conditions.asking.may_ask_all.Given as goal

-- those so far may be asked for
abbrev pub invariant-loop-literal : goal.invariant-loop-literal
invariant-loop-literal l = may_ask_all l.script (take l.literal-index l.literals) ≡ true
