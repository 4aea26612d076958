use Rattle.std.proofs.Common.{◌≡◌, take}
use Rattle.std.specs.List.{flat_map}
use Rattle.hm_top.specs.Peeks.{peek_line}
use Rattle.hm_top.proofs.peek.peek_lines.Given as goal

-- the text has the lines of the peeks so far
abbrev pub invariant-loop-peek : goal.invariant-loop-peek
invariant-loop-peek l = l.text ≡ flat_map peek_line (take l.peek-index l.peeks)
