use Rattle.std.proofs.Common.{take}
use Rattle.hm_flaws.specs.Recalled.{recalled_of}
use Rattle.hm_parts.specs.Follower.{IsFollowed}
use Rattle.hm_parts.proofs.follower.Follower.after.Given as goal

-- the entries so far were followed
abbrev pub invariant-loop-at : goal.invariant-loop-at
invariant-loop-at l = IsFollowed l.script (recalled_of l.script (take l.at l.entries)) l.so_far
