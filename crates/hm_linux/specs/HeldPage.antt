-- held-page: a migration keeps a page that another actor has a reference to, in place of copying it.
use Rattle.std.specs.Prelude.{ℕ, Bool, false, not, ◌&&◌, ◌==◌, if◌then◌else◌, Option, Some, None, List, [], ◌∷◌, ◌++◌}
use Rattle.std.specs.Prelude.{fold}
use Rattle.std.specs.List.{list_any}
use Rattle.hm_base.specs.declared.Frame.{Frame}
use Rattle.hm_base.specs.declared.Place.{Place}
use Rattle.hm_base.specs.declared.ops.Op.{Op}
use Rattle.hm_history.specs.Memory.Words.{least, same_frame, names}
use Rattle.hm_history.specs.Memory.After.{After}
use Rattle.hm_history.specs.Kernel.Going.{touch_page, touch_proc, coming}
use Rattle.hm_history.specs.declared.KeptAt.{KeptAt}
use Rattle.hm_history.specs.declared.KeptWhy.{KeptWhy}
use Rattle.hm_history.specs.declared.Kind.{Kind}
use Rattle.hm_history.specs.declared.phases.Body.{Body}
use Rattle.hm_history.specs.declared.phases.Migrating.{Migrating}
use Rattle.hm_history.specs.declared.phases.MoveStep.{MoveStep}
use Rattle.hm_history.specs.declared.phases.Phase.{Phase}
use Rattle.hm_history.specs.declared.phases.Next.{Next}
use Rattle.hm_history.specs.declared.phases.Next.TheVariants.{Do}
use Rattle.hm_linux.specs.Noted.{Noted}

-- ---- what is due

-- the other actor that has a reference to the frame
abbrev pub referrer : Noted → ℕ → Option Frame → Option ℕ
referrer n a None = None
referrer n a (Some f) = least (λ b. not (a == b) && list_any (same_frame f) (n.references b)) 0 16

-- in place of the copy the page is kept, if another actor has a reference to its frame
abbrev pub kept_step : Noted → ℕ → MoveStep → Migrating → Next → Next
kept_step n a MoveStep.TakeAndCopy x next = elim (referrer n a x.source) [
  | None ↦ next
  | Some b ↦ Do (Kind.Kept (KeptAt.Page x.page) (KeptWhy.LockedBy b))
]
kept_step n a step x next = next

-- the same where a migration has come to, if it is not at its end
abbrev pub kept_coming : Noted → ℕ → Option (MoveStep × Migrating) → Next → Next
kept_coming n a None next = next
kept_coming n a (Some at) next = kept_step n a at.0 at.1 next

-- what is due to a migration
abbrev pub keeps_referred : Noted → After → ℕ → Op → List Migrating → Phase → Next → Next
keeps_referred n s a o xs top next = kept_coming n a (coming s o xs top) next

-- ---- what was kept, was kept for its reason

-- the actor has a reference to the frame
abbrev pub refers_to : Noted → ℕ → Option Frame → Bool
refers_to n b None = false
refers_to n b (Some f) = list_any (same_frame f) (n.references b)

-- a page is kept since another actor has a reference to the frame from which the migration moves it
abbrev pub kept_referred : Noted → ℕ → List Migrating → KeptAt → KeptWhy → Bool
kept_referred n a xs (KeptAt.Page v) (KeptWhy.LockedBy b) =
    not (a == b) && list_any (λ x. (x.page == v) && refers_to n b x.source) xs
kept_referred n a xs what why = false

-- ---- what is noted

-- a frame as a list
abbrev pub frames_of : Option Frame → List Frame
frames_of None = []
frames_of (Some f) = f ∷ []

-- the frames without one
abbrev pub without_frame : List Frame → Frame → List Frame
without_frame fs f = fold (λ xs g. if same_frame f g then xs else g ∷ xs) [] fs

-- with the frame of the place that was taken away; of a device's frame the reference is dropped at once
abbrev pub with_taken_away : Place → List Frame → List Frame
with_taken_away (Place.Sys n w) fs = frames_of (names (Place.Sys n w)) ++ fs
with_taken_away x fs = fs

-- the references of an actor after its entry at this phase: a fault that copies has one to its page's frame, an unmap
-- and an exit have one to each system frame that they take away; each to the end of its invalidation
abbrev pub references_held : After → Op → List Frame → Phase → Kind → List Frame
references_held s o fs (Phase.Decide touch) (Kind.Take g) =
    frames_of (names (s.places.place (touch_proc s o) (touch_page o touch)))
references_held s o fs (Phase.Taken touch g x) (Kind.Drop f) = []
references_held s o fs (Phase.Guard p r met told (Body.Zap v)) (Kind.Place q u Place.Empty) =
    with_taken_away (s.places.place q u) fs
references_held s o fs (Phase.Drop f) (Kind.Drop g) = without_frame fs g
references_held s o fs top (Kind.End p r q) = []
references_held s o fs top k = fs
