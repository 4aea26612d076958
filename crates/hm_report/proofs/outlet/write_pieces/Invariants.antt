use Rattle.std.proofs.Common.{◌≤◌, ◌-◌, ℕ, List, length, take}
use Rattle.hm_io.specs.Streams.{SinkState}
use Rattle.hm_report.specs.Sends.{Sends}
use Rattle.hm_report.proofs.outlet.write_pieces.Given as goal

-- the bytes so far were added
pub record SoFar (before now : SinkState) (bytes : List ℕ) (at : ℕ) : Type 0 where
  pub sends : Sends before now (take at bytes)
  pub within : at ≤ length bytes

abbrev pub invariant-loop-at : goal.invariant-loop-at
invariant-loop-at g l =
    SoFar (g.K.Sink.state l.fn.sink) (g.K.Sink.state l.sink) l.bytes l.at

abbrev pub decreases-loop-at : goal.decreases-loop-at
decreases-loop-at g l = length l.bytes - l.at
