-- In a migration that meets nobody nobody touches a fresh page: what that says at each stack.
use Rattle.std.specs.Prelude.{◌≡◌, ℕ, true, false, None, List, [], ◌∷◌, ⊤}
use Rattle.hm_base.specs.declared.ops.Op.{Op}
use Rattle.hm_history.specs.declared.phases.MoveStep.{MoveStep}
use Rattle.hm_history.specs.declared.phases.MoveStep.TheVariants.{Commit}
use Rattle.hm_history.specs.Memory.Plain.{mirror_proc}
use Rattle.hm_history.specs.Memory.After.{After}
use Rattle.hm_history.specs.Kernel.Operation.{op_mirror}
use Rattle.hm_history.specs.Kernel.Due.{has_no_frame}
use Rattle.hm_history.specs.declared.phases.Migrating.{Migrating}
use Rattle.hm_history.specs.declared.phases.Body.{Body}
use Rattle.hm_history.specs.declared.phases.Phase.{Phase}
use Rattle.hm_laws.specs.Records.{is_past, Among}

-- the fresh pages that are still to be placed have not been touched
abbrev pub FreshAt : After → Op → List Migrating → MoveStep → ℕ → Type 0
FreshAt s o xs step v = (w : Migrating) → Among xs w → w.source ≡ None → is_past step v Commit w.page ≡ false → has_no_frame (s.places.place (mirror_proc s.plain (op_mirror o)) w.page) ≡ true

-- below a guard or a copy a migration stands
abbrev pub Fresh_under : After → Op → List Migrating → List Phase → Type 0
Fresh_under s o xs (Phase.Moves step v ∷ []) = FreshAt s o xs step v
Fresh_under s o xs st = ⊥

-- at each stack; nothing is dropped and no page is lost
abbrev pub StaysFresh : After → Op → List Migrating → List Phase → Type 0
StaysFresh s o xs [] = ⊤
StaysFresh s o xs (Phase.Begin ∷ below) = ⊤
StaysFresh s o xs (Phase.Ready ∷ below) = ⊤
StaysFresh s o xs (Phase.Moves step v ∷ below) = FreshAt s o xs step v
StaysFresh s o xs (Phase.Guard q r met told (Body.Fresh g) ∷ below) = Fresh_under s o xs below × (has_no_frame (s.places.place q r.first) ≡ true)
StaysFresh s o xs (Phase.Guard q r met told body ∷ below) = Fresh_under s o xs below
StaysFresh s o xs (Phase.Copy f g k ∷ below) = Fresh_under s o xs below
StaysFresh s o xs (Phase.Finish f to ∷ below) = ⊤
StaysFresh s o xs (Phase.Settle g ∷ below) = ⊤
StaysFresh s o xs st = ⊥
