-- What sources and sinks tell of themselves, and what their calls do to that.
use Rattle.std.specs.Prelude.{◌≡◌, ℕ, ◌+◌, ◌-◌, ◌^◌, ◌≤◌, min, Bool, false, List, [], ◌++◌, take, Option, Some, None}
use Rattle.hm_io.specs.declared.Got.{Got}
use Rattle.hm_io.specs.declared.Got.TheVariants as got
use Rattle.hm_io.specs.declared.Put.{Put}
use Rattle.hm_io.specs.declared.Put.TheVariants as put
use Rattle.hm_io.specs.declared.Flushed.{Flushed}
use Rattle.hm_io.specs.declared.Flushed.TheVariants as flushed

-- ---- what a stream tells of itself

-- a source: the bytes that are left in it, if they are known, and how often a read has failed
pub record SourceState : Type 0 where
  pub left : Option (List ℕ)
  pub faults : ℕ

-- a sink: the bytes that it holds, if they are known, how often a write or a flush has failed, how often it ran out of
-- memory, and whether bytes that it took may not have gone on yet
pub record SinkState : Type 0 where
  pub held : Option (List ℕ)
  pub faults : ℕ
  pub wants : ℕ
  pub pending : Bool

-- ---- what the calls do

-- one more, up to the last value of a u64
abbrev pub raised : ℕ → ℕ
raised n = min (n + 1) (2 ^ 64 - 1)

-- a count that was raised, or that stands at its last value
abbrev pub Rose : ℕ → ℕ → Type 0
Rose before now = raised before ≤ now

-- how many bytes a call moved: some, and no more than it might have
abbrev pub IsCount : ℕ → ℕ → Type 0
IsCount n room = (1 ≤ n) × (n ≤ room)

-- a read that moved bytes moved at least one, and no more than there was room for
abbrev pub GotCount : Got → ℕ → Type 0
GotCount (got.Bytes n) room = IsCount n room
GotCount got.Ended room = Unit {0}
GotCount got.Failed room = Unit {0}

-- the front of what was left came, and the rest is left; if what was left is not known, nothing is said
abbrev pub Reads : Option (List ℕ) → Option (List ℕ) → Got → List ℕ → Type 0
Reads None after g into = Unit {0}
Reads (Some left) after (got.Bytes n) into = (rest : List ℕ) × (left ≡ take n into ++ rest) × (after ≡ Some rest)
Reads (Some left) after got.Ended into = (left ≡ []) × (after ≡ Some [])
Reads (Some left) after got.Failed into = after ≡ Some left

-- the count of faults rose at a failure, and stays otherwise
abbrev pub ReadCause : ℕ → ℕ → Got → Type 0
ReadCause before now (got.Bytes n) = now ≡ before
ReadCause before now got.Ended = now ≡ before
ReadCause before now got.Failed = (before ≤ now) × Rose before now

-- a write that moved bytes moved at least one, and no more than it was given
abbrev pub PutCount : Put → ℕ → Type 0
PutCount (put.Took n) room = IsCount n room
PutCount put.Failed room = Unit {0}
PutCount put.NoMemory room = Unit {0}

-- these bytes were added to what is held; if what is held is not known, nothing is said
abbrev pub Adds : Option (List ℕ) → Option (List ℕ) → List ℕ → Type 0
Adds None after more = Unit {0}
Adds (Some held) after more = after ≡ Some (held ++ more)

-- a front of this text was added
abbrev pub AddsFront : Option (List ℕ) → Option (List ℕ) → List ℕ → Type 0
AddsFront before after text = (front rest : List ℕ) × (text ≡ front ++ rest) × Adds before after front

-- what is held, if it is known, is as it was
abbrev pub Stays : Option (List ℕ) → Option (List ℕ) → Type 0
Stays None after = Unit {0}
Stays (Some held) after = after ≡ Some held

-- the bytes that were taken were added, or none
abbrev pub Writes : Option (List ℕ) → Option (List ℕ) → Put → List ℕ → Type 0
Writes before after (put.Took n) from = Adds before after (take n from)
Writes before after put.Failed from = Stays before after
Writes before after put.NoMemory from = Stays before after

-- the count of faults rose at a write that failed, and stays otherwise
abbrev pub WriteCause : ℕ → ℕ → Put → Type 0
WriteCause before now (put.Took n) = now ≡ before
WriteCause before now put.Failed = (before ≤ now) × Rose before now
WriteCause before now put.NoMemory = now ≡ before

-- the count of times without memory rose at a write that had none, and stays otherwise
abbrev pub WantCause : ℕ → ℕ → Put → Type 0
WantCause before now (put.Took n) = now ≡ before
WantCause before now put.Failed = now ≡ before
WantCause before now put.NoMemory = (before ≤ now) × Rose before now

-- after a flush nothing waits to go on
abbrev pub IsSentOn : Bool → Flushed → Type 0
IsSentOn pending flushed.Done = pending ≡ false
IsSentOn pending flushed.Failed = Unit {0}

-- the count of faults rose at a flush that failed, and stays otherwise
abbrev pub FlushCause : ℕ → ℕ → Flushed → Type 0
FlushCause before now flushed.Done = now ≡ before
FlushCause before now flushed.Failed = (before ≤ now) × Rose before now
