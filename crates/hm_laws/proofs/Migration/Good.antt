-- What it is for the entry to be good that is due where a migration has come to a record.
use Rattle.std.proofs.Common.{ℕ, Option, List}
use Rattle.hm_base.specs.Program.{Program}
use Rattle.hm_base.specs.declared.ops.Op.{Op}
use Rattle.hm_history.specs.Memory.Locks.{orphan}
use Rattle.hm_history.specs.Memory.After.{After}
use Rattle.hm_history.specs.Kernel.Going.{seen_overlap, seen_place, recorded_at}
use Rattle.hm_history.specs.Kernel.Stacks.{after_migration}
use Rattle.hm_history.specs.declared.Kind.{Kind}
use Rattle.hm_history.specs.declared.phases.Migrating.{Migrating}
use Rattle.hm_history.specs.declared.phases.MoveStep.{MoveStep}
use Rattle.hm_history.specs.declared.phases.Seen.{Seen}
use Rattle.hm_history.specs.declared.phases.Phase.{Phase}
use Rattle.hm_laws.specs.Past.{Past, past_next}
use Rattle.hm_laws.specs.Allowed.{next, Allowed}
use Rattle.hm_laws.specs.Facts.{facts, HoldsAll}
use Rattle.hm_laws.proofs.Due.Good.{Fair}
pub use Rattle.hm_laws.proofs.Migration.Coming.{Came, Past_all, Ahead}

-- what is seen at the entry
abbrev pub seen_moves : After → Op → MoveStep → ℕ → Option Migrating → Kind → Seen
seen_moves s o step v x k = record {
  at = s.length;
  overlapped = seen_overlap s k;
  place = seen_place s o (Phase.Moves step v) k;
  orphan = orphan s.locks s.places k;
  page = x;
}

-- the entry is allowed, and its actor then knows what its next phases say
abbrev pub Steps : Program → After → Past → ℕ → Op → List Migrating → MoveStep → ℕ → Option Migrating → Kind → Type 0
Steps c s t a o xs step v x k = Allowed c s t a k × Fair c s a o xs k (Phase.Moves step v) × HoldsAll (next s a k) (past_next t s.length a k) a (facts o (recorded_at x xs k) (after_migration step x k (seen_moves s o step v x k)))
