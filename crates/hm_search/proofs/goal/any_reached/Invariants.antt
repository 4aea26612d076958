use Rattle.std.proofs.Common.{◌≡◌, false, take}
use Rattle.std.specs.List.{list_any}
use Rattle.hm_search.specs.Values.{at_goal}
use Rattle.hm_search.proofs.goal.any_reached.Given as goal

-- none of the states so far reaches it
abbrev pub invariant-loop-state : goal.invariant-loop-state
invariant-loop-state g l = list_any (at_goal g.G.Goal.read (g.G.Goal.reached l.goal)) (take l.state-index l.state-items) ≡ false
