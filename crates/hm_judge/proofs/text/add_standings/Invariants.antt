use Rattle.std.proofs.Common.{◌≡◌, ◌++◌, take}
use Rattle.hm_judge.specs.Standing.{standing_lines}
use Rattle.hm_judge.proofs.text.add_standings.Given as goal

-- the lines so far were added
abbrev pub invariant-loop-actor : goal.invariant-loop-actor
invariant-loop-actor l = l.text ≡ l.fn.text ++ standing_lines l.at 0 (take l.actor l.standing)
