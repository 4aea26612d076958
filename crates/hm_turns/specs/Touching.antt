-- The process that an entry of a history touches.
use Rattle.std.specs.Prelude.{ℕ, ◌-◌, Option, Some, None, List, length, slice_get, take}
use Rattle.hm_history.specs.declared.Entry.{Entry}
use Rattle.hm_history.specs.Memory.After.{after}
use Rattle.hm_history.specs.Memory.Plain.{touched}

-- what an entry touches, in the plain state after those before it
unfoldable pub touched_after : List Entry → Option Entry → Option ℕ
touched_after before None = None
touched_after before (Some e) = touched (after before).plain e.kind

-- what the entry at a position touches
abbrev pub touch_at : List Entry → ℕ → Option ℕ
touch_at h i = touched_after (take i h) (slice_get h i)

-- what the last entry touches
abbrev pub last_touched : List Entry → Option ℕ
last_touched h = touch_at h (length h - 1)
