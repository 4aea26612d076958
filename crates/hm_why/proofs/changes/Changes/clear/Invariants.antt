use Rattle.std.proofs.Common.{◌≡◌, ℕ, ◌<◌, ◌≤◌}
use Rattle.std.specs.Prelude.{Option}
use Rattle.std.specs.BTreeMap.{btree_map_len}
use Rattle.hm_why.specs.Changes.{change_at, IsFirst}
use Rattle.hm_why.specs.declared.changes.Changes.{Changes}
use Rattle.hm_why.proofs.changes.Changes.clear.Given as goal

-- the changes outside the part are as they were, and the next one is the first from its start on
pub record SoFar (before now : Changes) (from to : ℕ) (next : Option (ℕ × Option ℕ)) : Type 0 where
  pub low : (k : ℕ) → k < from → change_at now k ≡ change_at before k
  pub high : (k : ℕ) → to ≤ k → change_at now k ≡ change_at before k
  pub first : IsFirst now from next

abbrev pub invariant-loop-next : goal.invariant-loop-next
invariant-loop-next l = SoFar l.fn.self l.self l.from l.to l.next

abbrev pub decreases-loop-next : goal.decreases-loop-next
decreases-loop-next l = btree_map_len l.self.points
