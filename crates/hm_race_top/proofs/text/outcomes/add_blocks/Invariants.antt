use Rattle.std.proofs.Common.{◌≡◌, ◌++◌, take}
use Rattle.hm_race_top.specs.Text.Text.{blocks_text}
use Rattle.hm_race_top.proofs.text.outcomes.add_blocks.Given as goal

-- the blocks so far were added
abbrev pub invariant-loop-at : goal.invariant-loop-at
invariant-loop-at l = l.text ≡ l.fn.text ++ blocks_text 1 (take l.at l.blocks)
