use Rattle.std.proofs.Common.{◌≡◌, length, take}
use Rattle.hm_flaws.specs.Recalled.{recalled_of}
use Rattle.hm_parts.specs.Follower.{IsFollowed}
use Rattle.hm_parts.proofs.Going.{SoFar}
use Rattle.hm_parts.proofs.all_entries.follow.Given as goal

-- the entries so far were followed, and what is left is what is to be found
abbrev pub invariant-loop-at : goal.invariant-loop-at
invariant-loop-at l = record {
  followed : IsFollowed l.script (recalled_of l.script (take l.at l.entries)) l.so_far;
  so : SoFar l.script l.entries l.at l.all.items;
  many : length l.all.items ≡ l.at;
}
