-- The verdict on what a source had.
use Rattle.std.specs.Prelude.{◌≡◌, ℕ, ◌≤◌, List, length}
use Rattle.hm_base.specs.Program.{Program}
use Rattle.hm_edge.specs.Input.{CameWhole}
use Rattle.hm_history.specs.declared.Entry.{Entry}
use Rattle.hm_io.specs.Streams.{SourceState}
use Rattle.hm_report.specs.Report.{report}
use Rattle.hm_check.specs.FirstBad.{IsLegalReport}
use Rattle.hm_check.specs.Judged.{IsYes, Judged}
use Rattle.hm_check.specs.declared.verdict.Verdict.{Verdict}
use Rattle.hm_check.specs.declared.verdict.Verdict.TheVariants.{Yes, No}

-- the bytes are the report of this script and this history, which is legal for it
pub record IsLegalReportOf (c : Program) (h : List Entry) (bytes : List ℕ) : Type 0 where
  pub legal : IsLegalReport c h
  pub text_is : bytes ≡ report c h

-- all that was left in the source came, and this is the verdict on it
pub record IsVerdictOn (before after : SourceState) (v : Verdict) : Type 0 where
  pub bytes : List ℕ
  pub short : length bytes ≤ 268435456
  pub whole : CameWhole before.left after.left bytes
  pub judged : Judged bytes v
  pub only : (c : Program) (h : List Entry) → IsLegalReportOf c h bytes → IsYes c h v

-- the report that was found is legal
abbrev pub IsSound : Verdict → Type 0
IsSound (Yes r) = IsLegalReport r.script r.history.entries
IsSound (No n) = Unit {0}
