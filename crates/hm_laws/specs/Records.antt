-- The records of a migration: its pages in order, and which steps are past for each.
use Rattle.std.specs.Prelude.{◌≡◌, ℕ, Bool, true, false, not, ◌&&◌, ◌||◌, ◌==◌, nat_lt, if◌then◌else◌, Option, Some}
use Rattle.std.specs.Prelude.{None, is_some, is_none, List, [], ◌∷◌, ◌⊎◌}
use Rattle.std.specs.List.{list_any, list_all}
use Rattle.hm_base.specs.Pages.{Pages}
use Rattle.hm_base.specs.declared.Frame.{Frame}
use Rattle.hm_base.specs.declared.ops.Op.{Op}
use Rattle.hm_history.specs.Memory.Words.{same_frame, is_frame}
use Rattle.hm_history.specs.Kernel.Operation.{is_to_device, is_migration}
use Rattle.hm_history.specs.declared.phases.Migrating.{Migrating}
use Rattle.hm_history.specs.declared.phases.MoveStep.{MoveStep}

-- ---- the steps of a migration

-- both are one step
abbrev pub same_step : MoveStep → MoveStep → Bool
same_step MoveStep.FreezeOthers MoveStep.FreezeOthers = true
same_step MoveStep.TakeAndCopy MoveStep.TakeAndCopy = true
same_step MoveStep.Commit MoveStep.Commit = true
same_step MoveStep.SetOwnTable MoveStep.SetOwnTable = true
same_step MoveStep.Finish MoveStep.Finish = true
same_step _ _ = false

-- the first step is made for all pages before the second one begins
abbrev pub comes_before : MoveStep → MoveStep → Bool
comes_before _ MoveStep.FreezeOthers = false
comes_before MoveStep.FreezeOthers _ = true
comes_before _ MoveStep.TakeAndCopy = false
comes_before MoveStep.TakeAndCopy _ = true
comes_before _ MoveStep.Commit = false
comes_before MoveStep.Commit _ = true
comes_before _ MoveStep.SetOwnTable = false
comes_before MoveStep.SetOwnTable _ = true
comes_before _ _ = false

-- a migration that has come to a page in a step is past another step for a page
abbrev pub is_past : MoveStep → ℕ → MoveStep → ℕ → Bool
is_past step next other v = comes_before other step || (same_step other step && nat_lt v next)

-- there is no record
abbrev pub is_nil : List Migrating → Bool
is_nil [] = true
is_nil (x ∷ xs) = false

-- only a migration begins with records
abbrev pub starts_empty : Op → List Migrating → Bool
starts_empty o xs = not (is_migration o) || is_nil xs

-- the pages that a migration is to move
abbrev pub op_range : Op → Pages
op_range (Op.ToDevice m r) = r
op_range (Op.ToSystem m r) = r
op_range o = record { first = 0; count = 0 }

-- the record is one of the list
abbrev pub Among : List Migrating → Migrating → Type 0
Among [] y = ⊥
Among (x ∷ xs) y = (x ≡ y) ⊎ Among xs y

-- all pages of the records lie below this one
abbrev pub pages_below : ℕ → List Migrating → Bool
pages_below n xs = list_all (λ x. nat_lt x.page n) xs

-- the pages of the records rise, so that each has at most one record
abbrev pub rising_pages : List Migrating → Bool
rising_pages [] = true
rising_pages (x ∷ xs) = list_all (λ y. nat_lt x.page y.page) xs && rising_pages xs

-- the frame is the record's
abbrev pub is_of : Migrating → Frame → Bool
is_of x f = is_frame x.source f || is_frame x.dest f

-- the pages are in order, and no frame is of two records, or of one twice
pub record WellListed (xs : List Migrating) : Type 0 where
  pub rising : rising_pages xs ≡ true
  pub apart : (y z : Migrating) (f : Frame) → Among xs y → Among xs z → is_of y f ≡ true → is_of z f ≡ true → y ≡ z
  pub own : (y : Migrating) (f : Frame) → Among xs y → y.source ≡ Some f → y.dest ≡ Some f → ⊥

-- a page that no frame has is only in a migration to a device
abbrev pub has_ground : Op → Migrating → Bool
has_ground o x = is_some x.source || is_to_device o

-- a new frame comes with the step of taking
abbrev pub is_taken_in_time : Bool → Migrating → Bool
is_taken_in_time past_taking x = is_none x.dest || past_taking

-- what moved, was committed to a new frame
abbrev pub is_moved_in_time : Bool → Migrating → Bool
is_moved_in_time past_commit x = not x.moved || (past_commit && is_some x.dest)

-- after the commit, what has both an old frame and a new one moved
abbrev pub is_moved_at_last : Bool → Migrating → Bool
is_moved_at_last past_commit x = not past_commit || (is_none x.dest || (x.moved || is_none x.source))

-- a record has what the steps that are past gave it
abbrev pub staged : Op → Bool → Bool → Migrating → Bool
staged o past_taking past_commit x =
    has_ground o x
    && (is_taken_in_time past_taking x && (is_moved_in_time past_commit x && is_moved_at_last past_commit x))

-- how many eighths are copied into the frame: all but for one frame that is in hand
abbrev pub parts_of : Option (Frame × ℕ) → Frame → ℕ
parts_of None g = 8
parts_of (Some x) g = if same_frame x.0 g then x.1 else 8

-- the record that a pushed phase is about
abbrev pub has_source : Frame → ℕ → List Migrating → Bool
has_source f v xs = list_any (λ x. (x.page == v) && is_frame x.source f) xs

-- a record moves the first frame's contents to the second, and has not done so yet
abbrev pub has_pair : Frame → Frame → List Migrating → Bool
has_pair f g xs = list_any (λ x. is_frame x.source f && (is_frame x.dest g && not x.moved)) xs

-- a record is to put the frame over a page that had none, and has not done so yet
abbrev pub has_fresh : ℕ → Frame → List Migrating → Bool
has_fresh v g xs = list_any (λ x. (x.page == v) && (is_none x.source && (is_frame x.dest g && not x.moved))) xs

-- none of these frames is one of those
abbrev pub apart_from : List Frame → List Frame → Bool
apart_from l fs = list_all (λ f. not (list_any (same_frame f) fs)) l
