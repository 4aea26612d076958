use Rattle.std.proofs.Common.{◌≡◌, false, take}
use Rattle.std.specs.List.{list_any}
use Rattle.hm_race_top.specs.Text.Conditions.Absent.{is_absent}
use Rattle.hm_race_top.specs.Text.Laws.{lines_of}
use Rattle.hm_race_top.proofs.text.conditions.absent.some_absent.Given as goal

-- none of the literals so far is such
abbrev pub invariant-loop-literal : goal.invariant-loop-literal
invariant-loop-literal l =
    list_any (is_absent l.condition (lines_of l.blocks) l.literals) (take l.literal-index l.literals) ≡ false
