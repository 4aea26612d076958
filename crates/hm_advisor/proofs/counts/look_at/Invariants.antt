use Rattle.std.proofs.Common.{◌≡◌, ℕ, ◌≤◌, ◌<◌, List, length, take, slice_index_or}
use Rattle.std.specs.Prelude.{Option, None}
use Rattle.hm_history.specs.declared.Who.{Who}
use Rattle.hm_history.specs.declared.Entry.{Entry}
use Rattle.hm_advisor.specs.Accesses.{accesses, count_for, AreSized}
use Rattle.hm_advisor.specs.Counts.{windows}
use Rattle.hm_advisor.specs.declared.accesses.Accesses.{Accesses}
use Rattle.hm_advisor.specs.declared.windows.Window.{Window}
use Rattle.hm_advisor.proofs.counts.look_at.Given as goal

-- what was seen of the entries so far
pub record SoFar (a : Accesses) (ws : List (Option Window)) (es : List Entry) (count : ℕ) : Type 0 where
  pub sized : AreSized a
  pub counted : (x : Who) (v : ℕ) → count_for a x v ≡ accesses (take count es) x v
  pub few : (x : Who) (v : ℕ) → count_for a x v ≤ count
  pub mirrors : length ws ≡ 32
  pub attached : (m : ℕ) → m < 32 → slice_index_or ws m None ≡ windows (take count es) m

abbrev pub invariant-loop-entry : goal.invariant-loop-entry
invariant-loop-entry l = SoFar l.accesses l.windows l.entries l.entry-index
