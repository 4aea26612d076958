use Rattle.std.proofs.Common.{◌≡◌, ◌++◌, replicate}
use Rattle.hm_race_top.proofs.text.padded.add_spaces.Given as goal

-- the spaces so far were added
abbrev pub invariant-loop-at : goal.invariant-loop-at
invariant-loop-at l = l.text ≡ l.fn.text ++ replicate l.at 32
