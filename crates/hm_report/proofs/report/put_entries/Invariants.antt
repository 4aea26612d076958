use Rattle.std.proofs.Common.{◌≤◌, ℕ, List, length, take}
use Rattle.hm_base.specs.Program.{Program}
use Rattle.hm_history.specs.declared.Entry.{Entry}
use Rattle.hm_report.specs.Report.{entry_lines}
use Rattle.hm_report.specs.Ends.{AreEnds}
use Rattle.hm_report.specs.declared.ended.Ends.{Ends}
use Rattle.hm_io.specs.Streams.{SinkState}
use Rattle.hm_report.specs.Sends.{GoesOn}
use Rattle.hm_report.proofs.report.put_entries.Given as goal

-- the lines so far were added, and the ends counted
pub record SoFar (c : Program) (ends : Ends) (before now : SinkState) (kept keeps : List ℕ) (entries : List Entry) (count : ℕ) : Type 0 where
  pub ended : AreEnds c (take count entries) ends
  pub goes : GoesOn before now kept keeps (entry_lines 0 (take count entries))
  pub room : length keeps ≤ 5000

abbrev pub invariant-loop-at : goal.invariant-loop-at
invariant-loop-at g l =
    SoFar l.script l.ends (g.K.Sink.state l.fn.sink) (g.K.Sink.state l.sink) l.fn.out l.out l.entries l.at
