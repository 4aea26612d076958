use Rattle.std.proofs.Common.{◌≡◌, ◌++◌}
use Rattle.std.specs.List.{flat_map}
use Rattle.hm_history.specs.Memory.Words.{numbers}
use Rattle.hm_view.specs.Standing.{standing_of}
use Rattle.hm_view.proofs.standing.add_standings.Given as goal

-- the words of the actors so far were added
abbrev pub invariant-loop-actor : goal.invariant-loop-actor
invariant-loop-actor l = l.text ≡ l.fn.text ++ flat_map (standing_of l.world.script l.world.history) (numbers 0 l.actor)
