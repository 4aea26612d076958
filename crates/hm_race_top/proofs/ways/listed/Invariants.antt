use Rattle.std.proofs.Common.{◌≡◌, take}
use Rattle.hm_race_top.proofs.ways.listed.Given as goal

-- the turns so far
abbrev pub invariant-loop-actor : goal.invariant-loop-actor
invariant-loop-actor l = l.list ≡ take l.actor-index l.turns
