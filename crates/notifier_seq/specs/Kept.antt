-- How the tree and its room stand to the intervals, and what a process has before its first mirror.
use Rattle.std.specs.Prelude.{◌≡◌, ℕ, ◌+◌, ◌≤◌, Bool, false, if◌then◌else◌, Option, Some, None, List, Box, length, map}
use Rattle.std.specs.Prelude.{count_by, replicate, slice_index_or, slice_set}
use Rattle.std.specs.declared.alloc.Global.{Global}
use Rattle.hm_base.specs.Pages.{Pages}
use Rattle.notifier_seq.specs.declared.interval.Settling.{Settling}
use Rattle.notifier_seq.specs.declared.interval.Settling.TheVariants.{Insert, Remove, Nothing}
use Rattle.notifier_seq.specs.declared.interval.Interval.{Interval}
use Rattle.notifier_seq.specs.declared.interval.Stage.{Stage}
use Rattle.notifier_seq.specs.declared.interval.Stage.TheVariants.{InTree, InsertDeferred, RemoveDeferred, Out}
use Rattle.notifier_seq.specs.Sequences.{in_tree_state, deferred_state, settled}

-- the window of an interval that is in the tree
abbrev pub tree_window : Option Interval → Option Pages
tree_window None = None
tree_window (Some x) = if in_tree_state x.stage then Some x.window else None

-- the stage of an interval; a mirror that never came is out
abbrev pub stage_of : Option Interval → Stage
stage_of None = Out
stage_of (Some x) = x.stage

-- what is due of an interval when the sequence moves
abbrev pub due_in : Stage → Pages → Settling
due_in InTree w = Nothing
due_in InsertDeferred w = Insert w
due_in RemoveDeferred w = Remove
due_in Out w = Nothing

-- the same of an interval that may not be there
abbrev pub due : Option Interval → Settling
due None = Nothing
due (Some x) = due_in x.stage x.window

-- the interval is still to come into the tree
abbrev pub is_coming : Option Interval → Bool
is_coming None = false
is_coming (Some x) = deferred_state x.stage

-- the intervals, and whether there is room for one more insert
pub record Listed : Type 0 where
  pub intervals : List (Option Interval)
  pub room : Bool

-- before the first mirror there is no interval and no room
abbrev pub nothing_listed : Listed
nothing_listed = record { intervals = replicate 32 None; room = false }

-- the interval of a mirror
abbrev pub listed_at : Listed → ℕ → Option Interval
listed_at x m = slice_index_or x.intervals m None

-- the intervals with that of one mirror changed
abbrev pub with_listed : Listed → ℕ → Option Interval → Listed
with_listed x m v = record x { intervals = slice_set x.intervals m v }

-- an interval more, in the room that there was
abbrev pub listed_with : Listed → ℕ → Interval → Listed
listed_with x m y = record { intervals = slice_set x.intervals m (Some y); room = false }

-- the tree has the intervals that are in it, and room for those that are to come, and for one more if that is said
pub record IsKept (xs : List (Option Interval)) (windows : List (Option Pages)) (spare : ℕ) (noted room : Bool) : Type 0
  where
    pub len : length xs ≡ 32
    pub tree : windows ≡ map tree_window xs
    pub enough : count_by is_coming xs + (if room then 1 else 0) ≤ spare
    -- if no deferral is noted there is none
    pub quiet : noted ≡ false → map settled xs ≡ xs

-- a process has none of it before room for its first insert was made
abbrev pub intervals_in : Option (Box Listed Global) → List (Option Interval)
intervals_in None = replicate 32 None
intervals_in (Some b) = b.value.intervals

-- whether there is room for one more insert
abbrev pub room_in : Option (Box Listed Global) → Bool
room_in None = false
room_in (Some b) = b.value.room
