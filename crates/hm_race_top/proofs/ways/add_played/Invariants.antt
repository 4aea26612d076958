use Rattle.std.proofs.Common.{◌≡◌, take}
use Rattle.hm_race_top.specs.Run.Played.{all_played}
use Rattle.hm_race_top.specs.Ways.{ways_by, with_ways}
use Rattle.hm_race_top.proofs.ways.add_played.Given as goal

-- the blocks with those of the orders so far
abbrev pub invariant-loop-at : goal.invariant-loop-at
invariant-loop-at l = l.blocks ≡ with_ways l.fn.blocks (ways_by l.actors (take l.at (all_played l.orders)))
