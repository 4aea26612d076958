-- What a verdict names: an event of its trace, which has a number.
use Rattle.std.specs.Prelude.{◌≡◌, ◌⊎◌, ℕ, ◌<◌, ◌≤◌, List, length, Ok, Option, Some}
use Rattle.hm_protocol.specs.declared.events.Recorded.{Recorded}
use Rattle.hm_protocol.specs.declared.events.Traced.{Traced}
use Rattle.hm_protocol.specs.declared.rules.Rule.{Rule}
use Rattle.hm_protocol.specs.declared.rules.Verdict.{Verdict}
use Rattle.hm_protocol.specs.Known.{Look}
use Rattle.hm_protocol.specs.Noted.{known}
use Rattle.hm_protocol.specs.Verdicts.{verdict}
use Rattle.hm_trace.specs.Traces.{read_trace}
use Rattle.hm_trace.specs.declared.reader.Progress.{Progress}
use Rattle.hm_trace_top.specs.Together.{verdict_on}
use Rattle.hm_trace_top.specs.Origins.{begun_on, origin_of, unbegun}
use Rattle.hm_trace_top.specs.Reading.{numbers_of}
use Rattle.hm_trace_top.specs.declared.origins.Begun.{Begun}
use Rattle.hm_trace_top.specs.declared.origins.Origin.{Origin}
use Rattle.hm_trace_top.specs.Texts.{recorded_in, verdicts}

-- the verdict names the event at this position
abbrev pub IsNamed : ℕ → Verdict → Type 0
IsNamed i (Verdict.Maybe j) = j ≡ i
IsNamed i (Verdict.Broken j) = j ≡ i
IsNamed i v = ⊥

-- a trace has a number for each of its events, and no more events than bytes; and no verdict names an event that is not
-- there
abbrev pub EventsAreNamed : Type 0
EventsAreNamed = (bytes : List ℕ) (p : Progress) (es : List Traced) → read_trace bytes ≡ Ok (p, es)
    → (length (numbers_of bytes) ≡ length es)
    × (length es ≤ length bytes)
    × ((x : Recorded) (r : Rule) (i : ℕ) → IsNamed i (verdict x r es) → i < length es)

-- of the verdicts on a trace, that on a rule is its own
abbrev pub VerdictsAreTheirs : Type 0
VerdictsAreTheirs = (x : Option Recorded) (es : List Traced) (r : Rule)
    → verdict_on (verdicts x es) r ≡ verdict (recorded_in x) r es

-- the verdict goes back to the event at this position
abbrev pub IsOrigin : ℕ → Origin → Type 0
IsOrigin j o = (o.from ≡ Some j) ⊎ (o.met ≡ Some j)

-- an event goes back to events before it
abbrev pub OriginsAreBefore : Type 0
OriginsAreBefore = (r : Rule) (es : List Traced) (i j : ℕ) → IsOrigin j (origin_of r es i) → j < i

-- a look-up, as it is known
abbrev pub begun_in : Look → Begun
begun_in l = record { at = l.begun; seq = l.seq }

-- where a look-up began is where it is known to have begun
abbrev pub LookUpsAreKnown : Type 0
LookUpsAreKnown = (es : List Traced) (t m : ℕ) → begun_on t m 0 unbegun es ≡ begun_in ((known es).looks t m)
