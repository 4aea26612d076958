use Rattle.std.proofs.Common.{◌≡◌, ◌≤◌, ◌*◌, ℕ, List, take}
use Rattle.hm_history.specs.declared.Entry.{Entry}
use Rattle.hm_report.specs.declared.totals.Amount.{Amount}
use Rattle.hm_report.specs.Summary.{amount_of}
use Rattle.hm_report.proofs.totals.amount_of.Given as goal

-- the numbers so far were summed
pub record SoFar (amount : Amount) (entries : List Entry) (total passed : ℕ) : Type 0 where
  pub same : total ≡ amount_of amount (take passed entries)
  pub few : total ≤ 18446744073709551615 * passed

abbrev pub invariant-loop-entry : goal.invariant-loop-entry
invariant-loop-entry l = SoFar l.amount l.entries l.total l.entry-index
