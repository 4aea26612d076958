use Rattle.std.proofs.Common.{◌≡◌, take}
use Rattle.hm_race_states.specs.Keyed.{form_in}
use Rattle.hm_search.specs.Values.{all_known}
use Rattle.hm_race_top.specs.Text.Text.{blocks_of}
use Rattle.hm_race_top.specs.Ways.{ways_by}
use Rattle.hm_race_top.proofs.ways.known_blocks.Given as goal

-- the blocks of the states so far
abbrev pub invariant-loop-at : goal.invariant-loop-at
invariant-loop-at l = l.blocks ≡ blocks_of (ways_by l.actors (take l.at (all_known form_in l.known)))
