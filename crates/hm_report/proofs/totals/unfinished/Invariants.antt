use Rattle.std.proofs.Common.{◌≡◌, ◌≤◌, ℕ, List, slice_index}
use Rattle.hm_base.specs.Program.{Program}
use Rattle.hm_report.specs.Summary.{unfinished_count}
use Rattle.hm_report.proofs.totals.unfinished.Given as goal

-- the actors so far were counted
pub record SoFar (c : Program) (ended : List ℕ) (count passed : ℕ) : Type 0 where
  pub same : count ≡ unfinished_count c (λ a. slice_index ended a) passed
  pub few : count ≤ passed

abbrev pub invariant-loop-actor : goal.invariant-loop-actor
invariant-loop-actor l = SoFar l.script l.ended l.count l.actor
