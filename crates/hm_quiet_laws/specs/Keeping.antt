-- What a migration that meets nobody keeps, and what becomes of the pages that it selected.
use Rattle.std.specs.Prelude.{◌≡◌, ℕ, Bool, true, false, ◌==◌, Some, List, ◌⊎◌}
use Rattle.std.specs.List.{list_any}
use Rattle.hm_base.specs.Program.{Program}
use Rattle.hm_base.specs.declared.Frame.{Frame}
use Rattle.hm_base.specs.declared.ops.Op.{Op}
use Rattle.hm_history.specs.Memory.Words.{names_directly}
use Rattle.hm_history.specs.Memory.Plain.{mirror_proc}
use Rattle.hm_history.specs.Memory.After.{After}
use Rattle.hm_history.specs.Kernel.Operation.{op_mirror}
use Rattle.hm_history.specs.Kernel.Due.{skips, pool_of}
use Rattle.hm_history.specs.declared.KeptAt.{KeptAt}
use Rattle.hm_history.specs.declared.KeptWhy.{KeptWhy}
use Rattle.hm_history.specs.declared.Entry.{Entry}
use Rattle.hm_history.specs.declared.Kind.{Kind}
use Rattle.hm_history.specs.declared.phases.Migrating.{Migrating}

-- the entry keeps no page because another actor has its frame locked, or because it was fresh and got a frame meanwhile
abbrev pub keeps_well : Kind → Bool
keeps_well (Kind.Kept what (KeptWhy.LockedBy b)) = false
keeps_well (Kind.Kept what KeptWhy.Lost) = false
keeps_well k = true

-- the entry keeps this page because no frame of the pool that the page was to go to was free
abbrev pub lacks_frame : ℕ → Kind → Bool
lacks_frame v (Kind.Kept (KeptAt.Page u) KeptWhy.NoFrame) = u == v
lacks_frame v k = false

-- the page's place in the mirror's process names a frame of the pool that the operation moves to
abbrev pub IsThere : After → Op → ℕ → Type 0
IsThere s o v = (g : Frame) × (names_directly (s.places.place (mirror_proc s.plain (op_mirror o)) v) ≡ Some g)
    × (g.pool ≡ pool_of s o)

-- a page that a migration selected is moved, or kept because the script skips it, or for want of a frame
abbrev pub WasDealt : Program → Op → List Entry → Migrating → Type 0
WasDealt c o entries x = (x.moved ≡ true)
    ⊎ ((skips c o x.page ≡ true) ⊎ (list_any (λ e. lacks_frame x.page e.kind) entries ≡ true))
