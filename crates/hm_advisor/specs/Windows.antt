-- The mirrors that are attached, with their processes and windows.
use Rattle.std.specs.Prelude.{true, false, Option, Some, None, List, slice_set}
use Rattle.hm_history.specs.Memory.Plain.{MirrorState, is_attached_state}
use Rattle.hm_history.specs.declared.Kind.{Kind}
use Rattle.hm_advisor.specs.declared.windows.Window.{Window}

-- the process and window of a mirror, while it is attached
abbrev pub window_of : Option MirrorState → Option Window
window_of None = None
window_of (Some x) =
    elim (is_attached_state x) [ true ↦ Some (record { proc = x.proc; span = x.window }) | false ↦ None ]

-- by the number of the mirror, after an entry
abbrev pub windows_next : Kind → List (Option Window) → List (Option Window)
windows_next (Kind.Attached m d p r q) ws = slice_set ws m (Some (record { proc = p; span = r }))
windows_next (Kind.Detaching m q) ws = slice_set ws m None
windows_next (Kind.Detached m) ws = slice_set ws m None
windows_next _ ws = ws
