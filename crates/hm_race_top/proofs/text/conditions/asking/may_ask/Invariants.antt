use Rattle.std.proofs.Common.{◌≡◌, true, take}
use Rattle.std.specs.List.{list_all}
use Rattle.hm_race_top.specs.Text.Conditions.Asking.{may_ask_all}
use Rattle.hm_race_top.proofs.text.conditions.asking.may_ask.Given as goal

-- the alternatives so far may be asked for
abbrev pub invariant-loop-literals : goal.invariant-loop-literals
invariant-loop-literals l = list_all (may_ask_all l.script) (take l.literals-index l.condition.body) ≡ true
