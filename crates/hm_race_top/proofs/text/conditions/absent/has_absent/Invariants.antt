use Rattle.std.proofs.Common.{◌≡◌, false, take}
use Rattle.std.specs.List.{list_any}
use Rattle.hm_race_top.specs.Text.Conditions.Absent.{some_absent}
use Rattle.hm_race_top.specs.Text.Laws.{lines_of}
use Rattle.hm_race_top.proofs.text.conditions.absent.has_absent.Given as goal

-- none of the alternatives so far has such a line
abbrev pub invariant-loop-literals : goal.invariant-loop-literals
invariant-loop-literals l =
    list_any (some_absent l.condition (lines_of l.blocks)) (take l.literals-index l.condition.body) ≡ false
