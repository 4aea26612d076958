use Rattle.std.proofs.Common.{◌≡◌, drop}
use Rattle.hm_script.specs.Automaton.{lines}
use Rattle.hm_judge.proofs.lines.line_at.Given as goal

-- the lines from there on are left
abbrev pub invariant-loop-at : goal.invariant-loop-at
invariant-loop-at l = drop l.at (lines l.bytes) ≡ lines l.rest
