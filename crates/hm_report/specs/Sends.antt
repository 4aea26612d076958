-- What goes out to a sink by way of a buffer.
use Rattle.std.specs.Prelude.{◌≡◌, ℕ, List, ◌++◌}
use Rattle.hm_io.specs.declared.Put.TheVariants as put
use Rattle.hm_io.specs.Streams.{SinkState, Adds, AddsFront, WriteCause, WantCause}
use Rattle.hm_report.specs.declared.outlet.Stop.{Stop}

-- these bytes were added
pub record Sends (before after : SinkState) (bytes : List ℕ) : Type 0 where
  pub bytes_are : Adds before.held after.held bytes
  pub faults : after.faults ≡ before.faults
  pub wants : after.wants ≡ before.wants

-- of what the buffer kept, and of more, a front went out, and the rest is kept now
pub record GoesOn (before after : SinkState) (kept keeps more : List ℕ) : Type 0 where
  pub front : List ℕ
  pub whole : kept ++ more ≡ front ++ keeps
  pub sends : Sends before after front

-- which count rose when sending stopped: that of faults, or that of times without memory. The other one stays
abbrev pub StopCause : SinkState → SinkState → Stop → Type 0
StopCause before after Stop.Fault = WriteCause before.faults after.faults put.Failed × (after.wants ≡ before.wants)
StopCause before after Stop.NoMemory =
    (after.faults ≡ before.faults) × WantCause before.wants after.wants put.NoMemory

-- a front of these bytes was added, and then the sink failed or ran out of memory
pub record Stops (before after : SinkState) (bytes : List ℕ) (why : Stop) : Type 0 where
  pub front : AddsFront before.held after.held bytes
  pub cause : StopCause before after why
