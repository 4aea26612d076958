use Rattle.std.proofs.Common.{◌≡◌, take}
use Rattle.hm_flaw_top.specs.Text.Table.{rules_text}
use Rattle.hm_flaw_top.proofs.text.table.rules_text.Given as goal

-- the lines so far
abbrev pub invariant-loop-row : goal.invariant-loop-row
invariant-loop-row l = l.text ≡ rules_text (take l.row-index l.rows)
