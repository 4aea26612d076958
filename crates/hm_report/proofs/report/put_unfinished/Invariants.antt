use Rattle.std.proofs.Common.{◌≤◌, ℕ, List, length, slice_index}
use Rattle.hm_base.specs.Program.{Program}
use Rattle.hm_report.specs.Report.{unfinished_among}
use Rattle.hm_io.specs.Streams.{SinkState}
use Rattle.hm_report.specs.Sends.{GoesOn}
use Rattle.hm_report.proofs.report.put_unfinished.Given as goal

-- the lines so far were added
pub record SoFar (before now : SinkState) (kept keeps : List ℕ) (c : Program) (ended : ℕ → ℕ) (count : ℕ) : Type 0 where
  pub goes : GoesOn before now kept keeps (unfinished_among c ended count)
  pub room : length keeps ≤ 5000

abbrev pub invariant-loop-actor : goal.invariant-loop-actor
invariant-loop-actor g l =
    SoFar (g.K.Sink.state l.fn.sink) (g.K.Sink.state l.sink) l.fn.out l.out l.script (λ a. slice_index l.ended a) l.actor
