use Rattle.std.proofs.Common.{◌≡◌, ℕ, ◌-◌, ◌≤◌, List, ◌++◌}
use Rattle.hm_advisor.specs.Accesses.{count_for}
use Rattle.hm_advisor.specs.Counts.{pages_counted}
use Rattle.hm_advisor.specs.declared.accesses.Accesses.{Accesses}
use Rattle.hm_advisor.specs.declared.counts.Count.{Count}
use Rattle.hm_advisor.proofs.counts.add_window.Given as goal

-- the accessed pages below `from` were added
pub record SoFar (old now : List Count) (a : Accesses) (m p first from end : ℕ) : Type 0 where
  pub above : first ≤ from
  pub within : from ≤ end
  pub added : now ≡ old ++ pages_counted (count_for a) m p first (from - first)

abbrev pub invariant-loop-from : goal.invariant-loop-from
invariant-loop-from l = SoFar l.fn.counts l.counts l.accesses l.mirror l.window.proc l.window.span.first l.from l.end

abbrev pub decreases-loop-from : goal.decreases-loop-from
decreases-loop-from l = l.end - l.from
