-- The trace of a history, and what is said of it.
use Rattle.std.specs.Prelude.{◌≡◌, ℕ, true, false, Some, List, Ok}
use Rattle.hm_base.specs.Program.{Program}
use Rattle.hm_check.specs.FirstBad.{IsLegalReport}
use Rattle.hm_history.specs.declared.Entry.{Entry}
use Rattle.hm_protocol.specs.Laws.{is_blame}
use Rattle.hm_protocol.specs.Projection.{project}
use Rattle.hm_protocol.specs.Verdicts.{verdict}
use Rattle.hm_protocol.specs.declared.events.Recorded.{Recorded}
use Rattle.hm_protocol.specs.declared.events.Traced.{Traced}
use Rattle.hm_protocol.specs.declared.rules.Rule.{Rule}
use Rattle.hm_trace.specs.Progress.{is_whole}
use Rattle.hm_trace.specs.Traces.{IsReadAs, read_trace, trace_text}
use Rattle.hm_trace.specs.declared.reader.Progress.{Progress}

-- all that the driver of the model does is in its history
abbrev pub all : Recorded
all = record { set = true; erase = true; uses = true; take = true; free = true; model = true }

-- the trace of a history
abbrev pub trace_of : Program → List Entry → List ℕ
trace_of c h = trace_text all (project c h)

-- it is read as just the events of the history, and as a whole trace
abbrev pub IsReadBack : Program → List Entry → Type 0
IsReadBack c h = IsReadAs (trace_of c h) all (project c h)

-- what was read is the events of the history, in a whole trace, and nobody is blamed: no verdict on them says that a rule
-- is broken, or may be
pub record IsUnblamed (c : Program) (h : List Entry) (p : Progress) (es : List Traced) : Type 0 where
  pub events : es ≡ project c h
  pub whole : is_whole p ≡ true
  pub recorded : p.recorded ≡ Some all
  pub rules : (r : Rule) → is_blame (verdict all r es) ≡ false

-- whoever reads the trace of a legal report, once it went out, reads that
abbrev pub TracesAreUnblamed : Type 0
TracesAreUnblamed = (c : Program) (h : List Entry) → IsLegalReport c h → IsReadBack c h → (p : Progress) (es : List Traced)
    → read_trace (trace_of c h) ≡ Ok (p, es) → IsUnblamed c h p es
