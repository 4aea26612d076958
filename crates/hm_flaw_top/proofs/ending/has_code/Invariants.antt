use Rattle.std.proofs.Common.{◌≡◌, false, take}
use Rattle.hm_flaw_top.specs.Endings.{has_code}
use Rattle.hm_flaw_top.proofs.ending.has_code.Given as goal

-- no line so far has it
abbrev pub invariant-loop-row : goal.invariant-loop-row
invariant-loop-row l = has_code l.code (take l.row-index l.rows) ≡ false
