use Rattle.std.proofs.Common.{◌≡◌, ◌++◌, take}
use Rattle.hm_race_top.specs.Text.Conditions.Texts.{absents_text}
use Rattle.hm_race_top.specs.Text.Laws.{lines_of}
use Rattle.hm_race_top.proofs.text.conditions.wording.add_absents.Given as goal

-- those of the literals so far were added
abbrev pub invariant-loop-literal : goal.invariant-loop-literal
invariant-loop-literal l = l.text ≡ l.fn.text ++ absents_text (lines_of l.blocks) (take l.literal-index l.literals)
