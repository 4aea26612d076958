use Rattle.std.proofs.Common.{◌≡◌, ℕ, ◌<◌, false, get_or, map}
use Rattle.hm_search.specs.Values.{at_goal}
use Rattle.hm_flaw_search.proofs.goals.first_reached.Given as goal

-- none of the states so far reaches it
abbrev pub invariant-loop-at : goal.invariant-loop-at
invariant-loop-at g l = (i : ℕ) → i < l.at → get_or (map (at_goal g.G.Goal.read (g.G.Goal.reached l.goal)) l.known) i false ≡ false
