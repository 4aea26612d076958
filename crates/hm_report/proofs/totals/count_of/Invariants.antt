use Rattle.std.proofs.Common.{◌≡◌, ◌≤◌, ℕ, List, take}
use Rattle.hm_history.specs.declared.Entry.{Entry}
use Rattle.hm_report.specs.declared.totals.Topic.{Topic}
use Rattle.hm_report.specs.Summary.{count_of}
use Rattle.hm_report.proofs.totals.count_of.Given as goal

-- the entries so far were counted
pub record SoFar (topic : Topic) (entries : List Entry) (count passed : ℕ) : Type 0 where
  pub same : count ≡ count_of topic (take passed entries)
  pub few : count ≤ passed

abbrev pub invariant-loop-entry : goal.invariant-loop-entry
invariant-loop-entry l = SoFar l.topic l.entries l.count l.entry-index
