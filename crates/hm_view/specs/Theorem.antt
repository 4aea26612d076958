-- The theorem of the program hmmview: what its user is told.
use Rattle.std.specs.Prelude.{◌≡◌, ℕ, ◌<◌, ◌≤◌, true, false, List, length, Option, Some, None}
use Rattle.hm_base.specs.Program.{Program}
use Rattle.hm_check.specs.FirstBad.{IsFirstBad, IsLegalReport}
use Rattle.hm_check.specs.Judging.{IsLegalReportOf}
use Rattle.hm_edge.specs.Exits.{Arguments, Exits}
use Rattle.hm_edge.specs.Traffic.{Traffic}
use Rattle.hm_edge.specs.Users.{CutShort, EndsSo, GoesOut, IsStarted, NothingOut, ToldUsage}
use Rattle.hm_edge.specs.declared.status.Status.{Status}
use Rattle.hm_history.specs.declared.Entry.{Entry}
use Rattle.hm_io.specs.Streams.{SinkState}
use Rattle.hm_view.specs.Asked.{asked_of, fits, is_there}
use Rattle.hm_view.specs.Laws.{TellsStates}
use Rattle.hm_view.specs.Runs.{Runs, name, usage}
use Rattle.hm_view.specs.Views.{page}
use Rattle.hm_view.specs.declared.asked.Asked.{Asked}

-- The bytes are a legal report, whose rows that are asked for are there, and few enough, and their page went out.
pub record TellsPage (x : Asked) (bytes held : List ℕ) (io : Traffic) : Type 0 where
  pub script : Program
  pub history : List Entry
  pub is : IsLegalReportOf script history bytes
  pub legal : IsLegalReport script history
  pub there : is_there x (length history) ≡ true
  pub few : fits x (length history) ≡ true
  pub out : GoesOut held (page x script history) io
  -- What is put together of its lines of changes is what is shown of the state, after each row.
  pub states : TellsStates script history
  -- It is the page of every script and history whose report the bytes are.
  pub alone : length bytes ≤ 268435456 → (c : Program) (h : List Entry) → IsLegalReportOf c h bytes
      → GoesOut held (page x c h) io

-- The bytes are a legal report of which this holds, and nothing is written.
pub record NoPage (Is : ℕ → Type 0) (bytes held : List ℕ) (io : Traffic) : Type 0 where
  pub script : Program
  pub history : List Entry
  pub is : IsLegalReportOf script history bytes
  pub why : Is (length history)
  pub nothing : NothingOut held io

-- the text is a page of the legal report that the bytes are
abbrev pub IsOfPage : Asked → List ℕ → List ℕ → Type 0
IsOfPage x bytes t = (c : Program) × (h : List Entry) × IsLegalReportOf c h bytes × (t ≡ page x c h)

-- The bytes are no legal report: their first bad line is named, and nothing is written.
pub record IsBad (line : ℕ) (bytes held : List ℕ) (io : Traffic) : Type 0 where
  pub first : IsFirstBad bytes line
  pub none : length bytes ≤ 268435456 → (c : Program) (h : List Entry) → IsLegalReportOf c h bytes → ⊥
  pub nothing : NothingOut held io

-- by how it ends; it ends in no other way
abbrev pub ToldPage : Asked → List ℕ → List ℕ → Traffic → Status → Type 0
ToldPage x bytes held io Status.Done = TellsPage x bytes held io
ToldPage x bytes held io (Status.NotLegal n) = IsBad n bytes held io
ToldPage x bytes held io Status.NoRows = NoPage (λ n. is_there x n ≡ false) bytes held io
ToldPage x bytes held io Status.TooManyRows =
    NoPage (λ n. (is_there x n ≡ true) × (fits x n ≡ false)) bytes held io
ToldPage x bytes held io Status.ReportTooLong = (268435456 < length bytes) × NothingOut held io
ToldPage x bytes held io Status.NoMemory = CutShort (IsOfPage x bytes) held io
ToldPage x bytes held io status = ⊥

-- by what the words ask for; if they are none of the forms, nothing is read or written
abbrev pub ToldBy : Option Asked → List ℕ → List ℕ → Traffic → Status → Type 0
ToldBy None bytes held io status = ToldUsage io status
ToldBy (Some x) bytes held io status = ToldPage x bytes held io status

-- Whoever starts the program with words after its name, an input and an output that do not fail, is told this.
abbrev pub Theorem : Type 0
Theorem = (words : List (List ℕ)) (bytes held : List ℕ) (args : Arguments) (io : Traffic)
    (errors errors_after : SinkState) (code : ℕ) → IsStarted words bytes held args io
    → Exits Runs name usage args io errors errors_after code
    → EndsSo (ToldBy (asked_of words) bytes held io) name usage errors errors_after code
