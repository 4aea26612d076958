use Rattle.std.proofs.Common.{◌≡◌, false, take}
use Rattle.hm_script.specs.Built.{has_drain}
use Rattle.hm_race_top.proofs.ways.has_drain.Given as goal

-- no line so far is one
abbrev pub invariant-loop-line : goal.invariant-loop-line
invariant-loop-line l = has_drain (take l.line-index l.lines) ≡ false
