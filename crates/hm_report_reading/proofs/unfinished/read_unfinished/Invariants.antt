use Rattle.std.proofs.Common.{◌≡◌, ◌+◌, ◌≤◌, ◌++◌, length}
use Rattle.std.specs.List.{All}
use Rattle.hm_report_reading.specs.Entries.{FitsUnfinished}
use Rattle.hm_report_reading.specs.Reports.{unfinished_list}
use Rattle.hm_script.specs.Automaton.{lines}
use Rattle.hm_report_reading.proofs.unfinished.read_unfinished.Given as goal

-- the lines so far are those of the operations so far
abbrev pub invariant-loop-line : goal.invariant-loop-line
invariant-loop-line l = (lines l.bytes ≡ unfinished_list l.unfinished.items ++ lines l.rest) × All FitsUnfinished l.unfinished.items × (length l.unfinished.items + length l.rest ≤ length l.bytes)

abbrev pub decreases-loop-line : goal.decreases-loop-line
decreases-loop-line l = length l.rest
