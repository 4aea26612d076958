-- What a write of a text does to a sink.
use Rattle.std.specs.Prelude.{◌≡◌, ℕ, ◌≤◌, Bool, false, List, Option, ◌⊎◌}
use Rattle.hm_io.specs.Streams.{Rose, Adds, AddsFront, SinkState}
use Rattle.hm_report.specs.declared.written.Written.{Written}

-- the text was added, or a front of it
abbrev pub Writes : Option (List ℕ) → Option (List ℕ) → List ℕ → Written → Type 0
Writes before after text Written.Done = Adds before after text
Writes before after text Written.Fault = AddsFront before after text
Writes before after text Written.NoMemory = AddsFront before after text

-- if all of the text was added, the sink has sent it on
abbrev pub SentOn : Bool → Written → Type 0
SentOn pending Written.Done = pending ≡ false
SentOn pending Written.Fault = Unit {0}
SentOn pending Written.NoMemory = Unit {0}

-- a fault comes only if the count rose, which stays otherwise
abbrev pub FaultCause : ℕ → ℕ → Written → Type 0
FaultCause before after Written.Done = after ≡ before
FaultCause before after Written.Fault = (before ≤ after) × Rose before after
FaultCause before after Written.NoMemory = after ≡ before

-- memory was wanted by the sink, whose count rose
abbrev pub TextWants : ℕ → ℕ → Written → Type 0
TextWants before after Written.Done = after ≡ before
TextWants before after Written.Fault = after ≡ before
TextWants before after Written.NoMemory = (before ≤ after) × Rose before after

-- memory was wanted before anything was written, or by the sink
abbrev pub ReportWants : SinkState → SinkState → Written → Type 0
ReportWants before after Written.Done = after.wants ≡ before.wants
ReportWants before after Written.Fault = after.wants ≡ before.wants
ReportWants before after Written.NoMemory =
    (after ≡ before) ⊎ ((before.wants ≤ after.wants) × Rose before.wants after.wants)
