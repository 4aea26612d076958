use Rattle.std.proofs.Common.{◌≡◌, ℕ, ◌+◌, List, ◌++◌, drop}
use Rattle.hm_history.specs.declared.Entry.{Entry}
use Rattle.hm_report.specs.Report.{entry_lines}
use Rattle.hm_flaw_top.proofs.text.lines.add_entries.Given as goal

-- the lines so far were added, and those of the other entries, from this position on, are missing
pub record SoFar (old now : List ℕ) (start at index : ℕ) (all rest : List Entry) : Type 0 where
  pub text : now ++ entry_lines at rest ≡ old ++ entry_lines start all
  pub place : at ≡ start + index

abbrev pub invariant-loop-entry : goal.invariant-loop-entry
invariant-loop-entry l = SoFar l.fn.text l.text l.fn.start l.at l.entry-index l.entries (drop l.entry-index l.entries)
