use Rattle.std.proofs.Common.{◌≡◌, false, take}
use Rattle.hm_race_lines.specs.Endings.{one_ends}
use Rattle.hm_race_lines.proofs.endings.one_ends.Given as goal

-- none of those so far ends so
abbrev pub invariant-loop-op : goal.invariant-loop-op
invariant-loop-op l = one_ends (take l.op-index l.ops) l.text ≡ false
