use Rattle.std.proofs.Common.{◌≡◌, ◌≤◌, ◌++◌, length}
use Rattle.std.specs.List.{All}
use Rattle.hm_report.specs.Report.{entry_lines}
use Rattle.hm_report_reading.specs.Fits.{FitsEntry}
use Rattle.hm_report_reading.proofs.entries.read_entries.Given as goal

-- the lines so far are those of the entries so far
abbrev pub invariant-loop-history : goal.invariant-loop-history
invariant-loop-history l = (l.bytes ≡ entry_lines 0 l.history.entries ++ l.rest) × (length l.history.entries ≤ 2000000) × All FitsEntry l.history.entries

abbrev pub decreases-loop-history : goal.decreases-loop-history
decreases-loop-history l = length l.rest
