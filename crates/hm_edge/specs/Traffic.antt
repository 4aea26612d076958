-- The streams of a call, before and after it.
use Rattle.std.specs.Prelude.{◌≡◌}
use Rattle.hm_io.specs.Streams.{Rose, SinkState, SourceState}

-- the source and the sink
pub record Traffic : Type 0 where
  pub source : SourceState  -- before the call
  pub source_after : SourceState
  pub sink : SinkState  -- before the call
  pub sink_after : SinkState

-- so of a call with these streams, by what they tell
abbrev pub traffic : {S K : Type 0} → (S → SourceState) → (K → SinkState) → S → S → K → K → Traffic
traffic source sink s s' k k' =
    record { source = source s; source_after = source s'; sink = sink k; sink_after = sink k' }

-- so of a call that leaves the source as it was
abbrev pub traffic_of : {K : Type 0} → SourceState → (K → SinkState) → K → K → Traffic
traffic_of source sink k k' =
    record { source = source; source_after = source; sink = sink k; sink_after = sink k' }

-- neither stream counted a fault
pub record NoFault (io : Traffic) : Type 0 where
  pub reads : ¬ Rose io.source.faults io.source_after.faults
  pub writes : ¬ Rose io.sink.faults io.sink_after.faults

-- nothing was read, and nothing written
pub record IsUntouched (io : Traffic) : Type 0 where
  pub unread : io.source_after ≡ io.source
  pub unwritten : io.sink_after ≡ io.sink
