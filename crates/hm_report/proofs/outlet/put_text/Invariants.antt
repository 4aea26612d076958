use Rattle.std.proofs.Common.{◌≤◌, ◌-◌, ℕ, List, length, take}
use Rattle.hm_io.specs.Streams.{SinkState}
use Rattle.hm_report.specs.Sends.{GoesOn}
use Rattle.hm_report.proofs.outlet.put_text.Given as goal

-- the bytes so far were added
pub record SoFar (before now : SinkState) (kept keeps text : List ℕ) (at : ℕ) : Type 0 where
  pub goes : GoesOn before now kept keeps (take at text)
  pub within : at ≤ length text
  pub room : length keeps ≤ 4096

abbrev pub invariant-loop-at : goal.invariant-loop-at
invariant-loop-at g l =
    SoFar (g.K.Sink.state l.fn.sink) (g.K.Sink.state l.sink) l.fn.out l.out l.text l.at

abbrev pub decreases-loop-at : goal.decreases-loop-at
decreases-loop-at g l = length l.text - l.at
