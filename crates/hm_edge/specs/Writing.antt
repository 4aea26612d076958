-- What a call has written to its sink, by how it ended.
use Rattle.std.specs.Prelude.{◌≡◌, ℕ, ◌⊎◌, Bool, false, List}
use Rattle.hm_io.specs.Streams.{Rose, Adds, AddsFront, SinkState}
use Rattle.hm_edge.specs.declared.status.Status.{Status}

-- the sink itself ran out of memory while such a text went out, and a front of the text is there
pub record WantedIn (Goes : List ℕ → Type 0) (before after : SinkState) : Type 0 where
  pub text : List ℕ
  pub goes : Goes text
  pub front : AddsFront before.held after.held text
  pub wants : Rose before.wants after.wants

-- what was written of the text: all of it, a front of it, or nothing; if memory ran out nothing, or, if it was the sink
-- that ran out of memory, a front of such a text
abbrev pub HasWritten : List ℕ → (List ℕ → Type 0) → SinkState → SinkState → Status → Type 0
HasWritten text Goes before after Status.Done = Adds before.held after.held text
HasWritten text Goes before after (Status.NotLegal n) = Adds before.held after.held text
HasWritten text Goes before after Status.HistoryFull = Adds before.held after.held text
HasWritten text Goes before after Status.WriteFault = AddsFront before.held after.held text
HasWritten text Goes before after Status.NoMemory = (after.held ≡ before.held) ⊎ WantedIn Goes before after
HasWritten text Goes before after _ = after.held ≡ before.held

-- the sink's count of faults rose at `WriteFault`, and is as it was at every other status
abbrev pub WriteFaulted : ℕ → ℕ → Status → Type 0
WriteFaulted before after Status.WriteFault = Rose before after
WriteFaulted before after _ = after ≡ before

-- if a text went out whole, the sink sent all of it on
abbrev pub IsFlushed : Bool → Status → Type 0
IsFlushed pending Status.Done = pending ≡ false
IsFlushed pending (Status.NotLegal n) = pending ≡ false
IsFlushed pending Status.HistoryFull = pending ≡ false
IsFlushed pending _ = Unit {0}
