use Rattle.std.proofs.Common.{◌≡◌, ◌++◌, take}
use Rattle.std.specs.List.{flat_map}
use Rattle.hm_advisor.specs.Text.{move_line}
use Rattle.hm_advisor.proofs.text.add_moves.Given as goal

-- the lines of the moves so far were added
abbrev pub invariant-loop-step : goal.invariant-loop-step
invariant-loop-step l = l.text ≡ l.fn.text ++ flat_map move_line (take l.step-index l.moves)
