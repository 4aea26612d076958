-- The rules of memory: what the entries of a legal history keep, in terms of the history alone, with no model of the
-- kernel.
use Rattle.std.specs.Prelude.{ℕ, Bool, true, false, not, ◌&&◌, ◌||◌, ◌==◌, Some, None, is_none, List, [], ◌∷◌}
use Rattle.std.specs.Prelude.{take, drop, IsTrue}
use Rattle.hm_base.specs.Program.{Program}
use Rattle.hm_base.specs.declared.cause.Cause.{Cause}
use Rattle.hm_base.specs.declared.PoolId.{PoolId}
use Rattle.hm_history.specs.Memory.Plain.{mirror_owner, plain_accepts}
use Rattle.hm_history.specs.Memory.Places.{lowest_free, places_accept}
use Rattle.hm_history.specs.Memory.Sequences.{sequences_accept}
use Rattle.hm_history.specs.Memory.Lookups.{last_where, uses_untold, narrows_guarded}
use Rattle.hm_history.specs.Memory.After.{after}
use Rattle.hm_history.specs.declared.KeptWhy.{KeptWhy}
use Rattle.hm_history.specs.declared.Kind.{Kind}
use Rattle.hm_history.specs.declared.Entry.{Entry}

-- ---- failures since no frame was free: every system frame is held, or was when the same operation asked for one

-- an entry that may come between that `noframe` and the failure or refusal
abbrev pub is_finishing : Kind → Bool
is_finishing (Kind.Place p v x) = true
is_finishing (Kind.Done f) = true
is_finishing (Kind.Drop f) = true
is_finishing _ = false

-- the first of these entries kept something for want of a frame
abbrev pub is_no_frame : List Entry → Bool
is_no_frame [] = false
is_no_frame (e ∷ es) = elim e.kind [ Kind.Kept what KeptWhy.NoFrame ↦ true | _ ↦ false ]

-- every frame of the system is held after the history
abbrev pub system_is_full : Program → List Entry → Bool
system_is_full c h = is_none (lowest_free c (after h).places PoolId.System)

-- no frame was free when the actor's bringing home or removal asked for one
abbrev pub was_short : Program → List Entry → ℕ → Bool
was_short c h a = elim (last_where (λ e. (e.actor == a) && not (is_finishing e.kind)) h) [
  | None ↦ false
  | Some j ↦ is_no_frame (drop j h) && system_is_full c (take j h)
]

-- the cause is that no frame was free
abbrev pub wants_frame : Cause → Bool
wants_frame Cause.NoFrame = true
wants_frame _ = false

-- the entry fails or is refused for want of a frame
abbrev pub needs_full : Kind → Bool
needs_full (Kind.Failed x at n why) = wants_frame why
needs_full (Kind.Refused why) = wants_frame why
needs_full _ = false

-- such an entry comes only if no frame was free
abbrev pub fails_rightly : Program → List Entry → Entry → Bool
fails_rightly c h e = elim (needs_full e.kind) [ false ↦ true | true ↦ system_is_full c h || was_short c h e.actor ]

-- ---- the rules

-- the entry keeps each rule after the history
pub record KeepsRules (c : Program) (h : List Entry) (e : Entry) : Type 0 where
  pub answers : IsTrue (plain_accepts (after h).plain e.kind)  -- answers are by plain bytes
  -- places, frames and mirror tables
  pub places : IsTrue (places_accept c (mirror_owner (after h).plain) (after h).places e.actor e.kind)
  pub frames : IsTrue (fails_rightly c h e)  -- no frame was free
  pub sequences : IsTrue (sequences_accept (after h).sequences e.actor e.kind)  -- sequences
  pub untold : IsTrue (uses_untold h e.kind)  -- no use of a told table entry
  -- invalidate before change
  pub guarded : IsTrue (narrows_guarded (after h).sequences (after h).places.place e.actor e.kind)
