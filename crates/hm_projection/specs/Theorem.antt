-- The theorem of the program hmmevents: what its user is told.
use Rattle.std.specs.Prelude.{◌≡◌, ℕ, ◌<◌, ◌≤◌, List, [], ◌∷◌, length}
use Rattle.hm_base.specs.Program.{Program}
use Rattle.hm_check.specs.FirstBad.{IsFirstBad, IsLegalReport}
use Rattle.hm_check.specs.Judging.{IsLegalReportOf}
use Rattle.hm_edge.specs.Exits.{Arguments, Exits}
use Rattle.hm_edge.specs.Traffic.{Traffic}
use Rattle.hm_edge.specs.Users.{CutShort, EndsSo, GoesOut, IsStarted, NothingOut, ToldUsage}
use Rattle.hm_edge.specs.declared.status.Status.{Status}
use Rattle.hm_history.specs.declared.Entry.{Entry}
use Rattle.hm_io.specs.Streams.{SinkState}
use Rattle.hm_projection.specs.Runs.{Runs, name, usage}
use Rattle.hm_projection.specs.Traces.{IsReadBack, trace_of}

-- The bytes are a legal report, and the trace of its history went out, which is read as just the events of that history.
pub record TellsTrace (bytes held : List ℕ) (io : Traffic) : Type 0 where
  pub script : Program
  pub history : List Entry
  pub is : IsLegalReportOf script history bytes
  pub legal : IsLegalReport script history
  pub out : GoesOut held (trace_of script history) io
  pub reads : IsReadBack script history
  -- It is the trace of every script and history whose report the bytes are.
  pub alone : length bytes ≤ 268435456 → (c : Program) (h : List Entry) → IsLegalReportOf c h bytes
      → GoesOut held (trace_of c h) io

-- the text is the trace of the legal report that the bytes are
abbrev pub IsOfReport : List ℕ → List ℕ → Type 0
IsOfReport bytes t = (c : Program) × (h : List Entry) × IsLegalReportOf c h bytes × (t ≡ trace_of c h)

-- The bytes are no legal report: their first bad line is named, and nothing is written.
pub record IsBad (line : ℕ) (bytes held : List ℕ) (io : Traffic) : Type 0 where
  pub first : IsFirstBad bytes line
  pub none : length bytes ≤ 268435456 → (c : Program) (h : List Entry) → IsLegalReportOf c h bytes → ⊥
  pub nothing : NothingOut held io

-- by how it ends; it ends in no other way
abbrev pub ToldTrace : List ℕ → List ℕ → Traffic → Status → Type 0
ToldTrace bytes held io Status.Done = TellsTrace bytes held io
ToldTrace bytes held io (Status.NotLegal n) = IsBad n bytes held io
ToldTrace bytes held io Status.ReportTooLong = (268435456 < length bytes) × NothingOut held io
ToldTrace bytes held io Status.NoMemory = CutShort (IsOfReport bytes) held io
ToldTrace bytes held io status = ⊥

-- by whether there are words, which it does not take
abbrev pub ToldBy : List (List ℕ) → List ℕ → List ℕ → Traffic → Status → Type 0
ToldBy [] bytes held io status = ToldTrace bytes held io status
ToldBy (w ∷ ws) bytes held io status = ToldUsage io status

-- Whoever starts the program with words after its name, an input and an output that do not fail, is told this.
abbrev pub Theorem : Type 0
Theorem = (words : List (List ℕ)) (bytes held : List ℕ) (args : Arguments) (io : Traffic)
    (errors errors_after : SinkState) (code : ℕ) → IsStarted words bytes held args io
    → Exits Runs name usage args io errors errors_after code
    → EndsSo (ToldBy words bytes held io) name usage errors errors_after code
