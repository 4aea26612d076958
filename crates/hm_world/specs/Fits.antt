-- What the structures ask of the state at an entry.
use Rattle.std.specs.Prelude.{ℕ}
use Rattle.hm_base.specs.Program.{Program}
use Rattle.hm_history.specs.Memory.Places.{pool_size}
use Rattle.hm_history.specs.Kernel.Going.{State}
use Rattle.hm_history.specs.declared.Kind.{Kind}
use Rattle.hm_history.specs.declared.phases.Seen.{Seen}
use Rattle.hm_frames.specs.Shown.{FramesFit}
use Rattle.hm_tables.specs.Steps.{TablesFit}
use Rattle.hm_spaces.specs.Spaces.{SpacesFit}
use Rattle.hm_notifiers.specs.Shown.{NotifiersValueFit}
use Rattle.hm_mirrors.specs.Shown.{MirrorsFit}
use Rattle.hm_actors.specs.Actors.{ActorsFit, IsSeen}

-- all that the structures ask of the state at an entry. It holds at every allowed entry, so no caller is asked for
-- it
pub record Fits (c : Program) (s : State) (a : ℕ) (k : Kind) : Type 0 where
  pub frames : FramesFit c s.after k
  pub tables : TablesFit (pool_size c) k
  pub spaces : SpacesFit s.after.plain k
  pub notifiers : NotifiersValueFit s.after.length s.after.sequences k
  pub mirrors : MirrorsFit s.after.plain.mirrors k
  pub actors : (seen : Seen) → IsSeen c s.after a (s.going a) k seen → ActorsFit c a (s.going a) k seen
