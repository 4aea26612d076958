use Rattle.std.proofs.Common.{◌≡◌, ◌++◌, take}
use Rattle.std.specs.List.{flat_map}
use Rattle.hm_race_top.specs.Text.Conditions.Texts.{absents_text}
use Rattle.hm_race_top.specs.Text.Laws.{lines_of}
use Rattle.hm_race_top.proofs.text.conditions.wording.add_all_absents.Given as goal

-- those of the alternatives so far were added
abbrev pub invariant-loop-literals : goal.invariant-loop-literals
invariant-loop-literals l =
    l.text ≡ l.fn.text ++ flat_map (absents_text (lines_of l.blocks)) (take l.literals-index l.condition.body)
