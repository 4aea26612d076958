-- The mirrors that are kept, as the plain state has them.
use Rattle.std.specs.Prelude.{ℕ, Bool, Option, Some, None, option_map, List, slice_index_or}
use Rattle.hm_base.specs.Pages.{Pages}
use Rattle.hm_history.specs.Memory.Plain.{MirrorState, Attachment, is_attached_state, plain_start, plain_next}
use Rattle.hm_history.specs.Memory.Plain as stage
use Rattle.hm_history.specs.declared.Kind.{Kind}
use Rattle.hm_folds.specs.declared.windows.KeptMirror.{KeptMirror}
use Rattle.hm_folds.specs.declared.windows.KeptAttachment.{KeptAttachment}
use Rattle.hm_folds.specs.declared.windows.KeptAttachment.TheVariants.{Attached, Detaching, Gone}

-- the stage of the definitions that a kept one stands for
abbrev pub attachment_of : KeptAttachment → Attachment
attachment_of Attached = stage.Attached
attachment_of Detaching = stage.Detaching
attachment_of Gone = stage.Gone

-- the mirror of the definitions that a kept one stands for
abbrev pub mirror_of : Option KeptMirror → Option MirrorState
mirror_of None = None
mirror_of (Some x) = Some (record { dev = x.dev; proc = x.proc; window = x.window; stage = attachment_of x.stage })

-- the mirrors of the definitions; one past the list was never attached
abbrev pub mirrors_of : List (Option KeptMirror) → ℕ → Option MirrorState
mirrors_of xs m = mirror_of (slice_index_or xs m None)

-- what is read of a mirror: its device, process and window, and whether it is attached
abbrev pub mirror_read : Option MirrorState → Option (ℕ × ℕ × Pages × Bool)
mirror_read o = option_map (λ x. (x.dev, x.proc, x.window, is_attached_state x)) o

-- the process of a mirror that may never have come
abbrev pub owner_in : Option MirrorState → Option ℕ
owner_in o = option_map (λ x. x.proc) o

-- the same, with 0 for a mirror that never came
abbrev pub proc_in : Option MirrorState → ℕ
proc_in o = elim o [ None ↦ 0 | Some x ↦ x.proc ]

-- the mirrors after an entry, of which the other parts of the state take no notice
abbrev pub mirrors_next : (ℕ → Option MirrorState) → Kind → ℕ → Option MirrorState
mirrors_next f k = (plain_next (record plain_start { mirrors = f }) k).mirrors
