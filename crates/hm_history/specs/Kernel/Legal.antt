-- Legal histories: each entry is due to its actor, keeps the rules of memory (Memory/Rules), and has its reason.
use Rattle.std.specs.Prelude.{◌≡◌, ℕ, Bool, true, false, not, ◌&&◌, ◌||◌, ◌==◌, Option, Some, None, is_none, List, []}
use Rattle.std.specs.Prelude.{◌∷◌, ◌++◌, IsTrue, ⊤}
use Rattle.std.specs.List.{list_any}
use Rattle.hm_base.specs.Program.{Program}
use Rattle.hm_base.specs.declared.Frame.{Frame}
use Rattle.hm_base.specs.declared.Place.{Place}
use Rattle.hm_base.specs.declared.ops.Op.{Op}
use Rattle.hm_history.specs.Memory.Words.{names}
use Rattle.hm_history.specs.Memory.Plain.{rights_of, mirror_proc, mirror_dev}
use Rattle.hm_history.specs.Memory.Places.{lowest_free}
use Rattle.hm_history.specs.Memory.Locks.{is_locker}
use Rattle.hm_history.specs.Memory.After.{After}
use Rattle.hm_history.specs.Memory.Rules.{KeepsRules}
use Rattle.hm_history.specs.declared.KeptAt.{KeptAt}
use Rattle.hm_history.specs.declared.KeptWhy.{KeptWhy}
use Rattle.hm_history.specs.declared.Kind.{Kind}
use Rattle.hm_history.specs.declared.Entry.{Entry}
use Rattle.hm_history.specs.declared.Progress.{Progress}
use Rattle.hm_history.specs.Kernel.Operation.{op_mirror}
use Rattle.hm_history.specs.Kernel.Going.{State, op_at, state_of}
use Rattle.hm_history.specs.Kernel.Due.{due, has_no_frame, skips, pool_of}
use Rattle.hm_history.specs.declared.phases.Migrating.{Migrating}

-- ---- what was kept, was kept for its reason

-- a place that a migration to a device does not move
abbrev pub stays_put : Place → Bool
stays_put (Place.Own d n w) = true
stays_put (Place.Moving f w) = true
stays_put (Place.Exclusive n b) = true
stays_put _ = false

-- the page lies in that device's memory
abbrev pub is_own_of : Place → ℕ → Bool
is_own_of (Place.Own e n w) d = d == e
is_own_of _ d = false

-- the page is not where the migration begins, or has no area
abbrev pub is_not_here : After → Op → ℕ → ℕ → Bool
is_not_here s (Op.ToDevice m r) p v = is_none (rights_of s.plain p v) || stays_put (s.places.place p v)
is_not_here s (Op.ToSystem m r) p v = not (is_own_of (s.places.place p v) (mirror_dev s.plain m))
is_not_here s _ p v = false

-- the frame that is kept: named, or that of the page's place
abbrev pub kept_frame : After → ℕ → KeptAt → Option Frame
kept_frame s p (KeptAt.Frame f) = Some f
kept_frame s p (KeptAt.Page v) = names (s.places.place p v)

-- that actor has the frame locked
abbrev pub is_locked_by : After → Option Frame → ℕ → Bool
is_locked_by s None b = false
is_locked_by s (Some f) b = is_locker (s.locks.frame f) b

-- the migration found the page without a frame
abbrev pub was_fresh : ℕ → List Migrating → Bool
was_fresh v xs = list_any (λ x. (x.page == v) && is_none x.source) xs

-- that reason holds of what is kept
abbrev pub kept_for : Program → After → ℕ → Op → List Migrating → ℕ → KeptAt → KeptWhy → Bool
kept_for c s a o xs p (KeptAt.Page v) KeptWhy.NotHere = is_not_here s o p v
kept_for c s a o xs p what (KeptWhy.LockedBy b) = not (a == b) && is_locked_by s (kept_frame s p what) b
kept_for c s a o xs p what KeptWhy.NoFrame = is_none (lowest_free c s.places (pool_of s o))
kept_for c s a o xs p (KeptAt.Page v) KeptWhy.Skipped = skips c o v
kept_for c s a o xs p (KeptAt.Page v) KeptWhy.Lost = was_fresh v xs && not (has_no_frame (s.places.place p v))
kept_for c s a o xs p what why = false

-- so it does, for the actor's operation
abbrev pub kept_op : Program → After → ℕ → Option Op → List Migrating → KeptAt → KeptWhy → Bool
kept_op c s a None xs what why = false
kept_op c s a (Some o) xs what why = kept_for c s a o xs (mirror_proc s.plain (op_mirror o)) what why

-- an entry that keeps something has its reason
abbrev pub kept_rightly : Program → State → Entry → Bool
kept_rightly c t e = let g = t.going e.actor in elim e.kind [
  | Kind.Kept what why ↦ kept_op c t.after e.actor (op_at c e.actor g.index) g.pages what why
  | _ ↦ true
]

-- the entry may follow the history
pub record MayFollow (c : Program) (h : List Entry) (e : Entry) : Type 0 where
  pub is_due : due c h e.actor ≡ Progress.Did e  -- each entry is due to its actor
  pub rules : KeepsRules c h e  -- it keeps the rules that need no model of the kernel
  pub kept : IsTrue (kept_rightly c (state_of c h) e)  -- reasons

-- each entry may follow those before it
abbrev pub LegalFrom : Program → List Entry → List Entry → Type 0
LegalFrom c h [] = ⊤
LegalFrom c h (e ∷ es) = MayFollow c h e × LegalFrom c (h ++ e ∷ []) es

-- a legal history of a script
abbrev pub Legal : Program → List Entry → Type 0
Legal c h = LegalFrom c [] h
