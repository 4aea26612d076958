-- How far all actors are, in two arrays.
use Rattle.std.specs.Prelude.{◌≡◌, ℕ, ◌+◌, ◌^◌, ◌<◌, ◌≤◌, List, length, slice_index}
use Rattle.hm_base.specs.Program.{Program}
use Rattle.hm_history.specs.declared.Entry.{Entry}
use Rattle.hm_report.specs.Ended.{ended_after}
use Rattle.hm_report.specs.declared.ended.Ends.{Ends}

-- one more can be counted of each actor
pub record Fits (ends : Ends) : Type 0 where
  pub operations_len : length ends.operations ≡ 16
  pub pieces_len : length ends.pieces ≡ 16
  pub operations : (a : ℕ) → a < 16 → slice_index ends.operations a + 1 < 2 ^ 64
  pub pieces : (a : ℕ) → a < 16 → slice_index ends.pieces a + 1 < 2 ^ 64

-- the arrays have how far each actor is after these entries
pub record AreEnds (c : Program) (es : List Entry) (ends : Ends) : Type 0 where
  pub operations_len : length ends.operations ≡ 16
  pub pieces_len : length ends.pieces ≡ 16
  pub operations_are : (a : ℕ) → a < 16 → slice_index ends.operations a ≡ (ended_after c es a).operations
  pub pieces_are : (a : ℕ) → a < 16 → slice_index ends.pieces a ≡ (ended_after c es a).pieces
  pub few_operations : (a : ℕ) → a < 16 → slice_index ends.operations a ≤ length es
  pub few_pieces : (a : ℕ) → a < 16 → slice_index ends.pieces a ≤ length es

-- so many operations of each actor have ended
pub record AreCounted (c : Program) (es : List Entry) (ended : List ℕ) : Type 0 where
  pub len : length ended ≡ 16
  pub each : (a : ℕ) → a < 16 → slice_index ended a ≡ (ended_after c es a).operations
