-- When the fold of places shows a state.
use Rattle.std.specs.Prelude.{◌≡◌, ℕ, true, not, Option, Some, None, List}
use Rattle.hm_base.specs.Program.{Program}
use Rattle.hm_base.specs.declared.PoolId.{PoolId}
use Rattle.hm_base.specs.declared.Frame.{Frame}
use Rattle.hm_base.specs.PlaceWords.{is_frame, names}
use Rattle.hm_history.specs.Memory.Words.{least}
use Rattle.hm_history.specs.Memory.Places.{Places, frame_of, pool_size, one_writer}
use Rattle.hm_history.specs.declared.Kind.{Kind}
use Rattle.hm_tables.specs.Shown.{TablesShown}
use Rattle.hm_folds.specs.Been.{been_of}
use Rattle.hm_folds.specs.HeldFrames.{held_at, frames_in}
use Rattle.hm_folds.specs.Commits.{committed_at}
use Rattle.hm_folds.specs.Shares.{shares_at}
use Rattle.hm_folds.specs.Standing.{shares_where, is_backed, is_moving_of}
use Rattle.hm_folds.specs.MirrorTables.{tables_of, numbers_of}
use Rattle.hm_folds.specs.declared.held.HeldNumbers.{HeldNumbers}
use Rattle.hm_folds.specs.declared.places.PlaceState.{PlaceState}

-- each read of the fold answers as the state does; what a place names is held in it, and no place shares what a
-- writable one stands for
pub record PlacesShown (c : Program) (s : Places) (x : PlaceState) : Type 0 where
  pub tables : TablesShown c s.place s.placed x.tables
  pub frames : (pool : PoolId) → frames_in x.held.pools pool ≡ pool_size c pool
  pub held : (f : Frame) → held_at x.held.pools f ≡ s.held f
  pub committed : (f : Frame) → committed_at x.commits.pools f ≡ s.committed_to f
  pub standing : (f : Frame) → shares_at x.standing.pools f ≡ shares_where s (is_backed s f)
  pub moving : (f : Frame) → shares_at x.moving.pools f ≡ shares_where s (is_moving_of f)
  pub withdrawn : been_of x.withdrawn ≡ s.withdrawn
  pub removed : been_of x.removed ≡ s.removed
  pub table : tables_of x.mirror_tables.tables.items ≡ s.table
  pub device : numbers_of x.devices ≡ s.device
  pub named : (p v : ℕ) (f : Frame) → is_frame (names (s.place p v)) f ≡ true → s.held f ≡ true
  pub one : one_writer s ≡ true

-- of each script and state that the fold shows
abbrev pub ForShown : PlaceState → (Program → Places → Type 0) → Type 0
ForShown x P = (c : Program) (s : Places) → PlacesShown c s x → P c s

-- the process of each mirror that was ever attached
abbrev pub owners_of : PlaceState → ℕ → Option ℕ
owners_of x = numbers_of x.owners

-- what a step asks of the frames that are held
abbrev pub HoldsNamed : List HeldNumbers → Option Frame → Type 0
HoldsNamed held None = Unit {0}
HoldsNamed held (Some f) = held_at held f ≡ true

-- what an entry asks of the frames that are held, so that the fold can take it
abbrev pub StepFits : List HeldNumbers → Kind → Type 0
StepFits held (Kind.Place p v y) = HoldsNamed held (names y)
StepFits held (Kind.Take f) =
    least (λ n. not (held_at held (frame_of f.pool n))) 0 (frames_in held f.pool) ≡ Some f.number
StepFits held (Kind.Drop f) = held_at held f ≡ true
StepFits held k = Unit {0}
