-- The windows of mirrors, which their intervals have too.
use Rattle.std.specs.Prelude.{◌≡◌, ℕ, nat_lt, if◌then◌else◌, Option, Some, None, List}
use Rattle.std.specs.Option.{option_map}
use Rattle.hm_base.specs.Pages.{Pages}
use Rattle.hm_history.specs.Memory.Plain.{MirrorState}
use Rattle.hm_history.specs.Memory.Sequences.{Interval}
use Rattle.hm_folds.specs.Kept.{interval_at}
use Rattle.hm_folds.specs.declared.intervals.KeptInterval.{KeptInterval}
use Rattle.hm_race_keys.specs.declared.sparse.Item.{Item}
use Rattle.hm_race_states.specs.Mirrors.{mirrors_in}
use Rattle.hm_race_states.specs.declared.mirrors.RaceMirror.{RaceMirror}

-- the window of a mirror that was attached
abbrev pub window_of : Option MirrorState → Option Pages
window_of x = option_map (λ (m : MirrorState). m.window) x

-- the window of an interval
abbrev pub window_in : Option Interval → Option Pages
window_in x = option_map (λ (i : Interval). i.window) x

-- each mirror has an interval with its window, and each interval has a mirror
abbrev pub SameWindows : List (Item RaceMirror) → List (Option KeptInterval) → Type 0
SameWindows ms xs = (m : ℕ) → window_of (mirrors_in ms m) ≡ window_in (interval_at xs m)

-- the first page of a span that lies in a window, if there is one
abbrev pub first_in : Option Pages → Pages → ℕ
first_in None r = r.first
first_in (Some w) r = if nat_lt r.first w.first then w.first else r.first
