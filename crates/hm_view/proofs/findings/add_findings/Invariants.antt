use Rattle.std.proofs.Common.{◌≡◌, ◌++◌}
use Rattle.hm_view.specs.Rows.{findings}
use Rattle.hm_view.proofs.findings.add_findings.Given as goal

-- the findings so far were added
abbrev pub invariant-loop-at : goal.invariant-loop-at
invariant-loop-at l = l.text ≡ l.fn.text ++ findings l.entries l.at
