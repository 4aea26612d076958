-- The invalidations, intervals and sequences of one process: mm/mmu_notifier.c, with its deferred inserts and removes.
-- That mirrors are told in rising number is this project's rule.
use Rattle.std.specs.Prelude.{ℕ, ◌+◌, ◌-◌, ◌%◌, Bool, true, false, not, ◌&&◌, ◌||◌, nat_lt, ◌==◌, if◌then◌else◌, Option}
use Rattle.std.specs.Prelude.{Some, None, List, length, map, filter, find, replicate, slice_index_or, slice_set}
use Rattle.hm_base.specs.Pages.{Pages, overlap}
use Rattle.interval_tree.specs.Intervals.{all_ids, is_above}
use Rattle.notifier_seq.specs.declared.Begin.{Begin}
use Rattle.notifier_seq.specs.declared.Begin.TheVariants.{Ready, Invalidating}
use Rattle.notifier_seq.specs.declared.Removal.{Removal}
use Rattle.notifier_seq.specs.declared.Removal.TheVariants.{Removed, WaitFor}
use Rattle.notifier_seq.specs.declared.interval.Interval.{Interval}
use Rattle.notifier_seq.specs.declared.interval.Stage.{Stage}
use Rattle.notifier_seq.specs.declared.interval.Stage.TheVariants.{InTree, InsertDeferred, RemoveDeferred, Out}

-- the process's sequence, its active invalidations, its intervals by number, below 32, and whether there is room for
-- one more insert
pub record Sequences : Type 0 where
  pub seq : ℕ
  pub active : ℕ
  pub intervals : List (Option Interval)
  pub room : Bool

-- a process before its first mirror. Its sequence is 2, as in Linux, so an interval that comes then has 1, which is
-- odd
abbrev pub sequences_start : Sequences
sequences_start = record { seq = 2; active = 0; intervals = replicate 32 None; room = false }

-- with room for one more insert, so that the insert itself cannot run out of memory
abbrev pub reserved : Sequences → Sequences
reserved s = record s { room = true }

-- an odd sequence says that an invalidation is under way that met an interval
abbrev pub is_odd : ℕ → Bool
is_odd n = n % 2 == 1

-- an interval at this stage is in the tree, so invalidations find it
abbrev pub in_tree_state : Stage → Bool
in_tree_state InTree = true
in_tree_state InsertDeferred = false
in_tree_state RemoveDeferred = true
in_tree_state Out = false

-- the interval's insert is still to be made
abbrev pub deferred_state : Stage → Bool
deferred_state InsertDeferred = true
deferred_state _ = false

-- the interval's removal is still to be made
abbrev pub leaving_state : Stage → Bool
leaving_state RemoveDeferred = true
leaving_state _ = false

-- the interval is there, and passes the test
abbrev pub interval_passes : (Interval → Bool) → Option Interval → Bool
interval_passes test None = false
interval_passes test (Some x) = test x

-- the interval of a mirror
abbrev pub interval_at : Sequences → ℕ → Option Interval
interval_at s m = slice_index_or s.intervals m None

-- the mirror's interval is in the tree
abbrev pub in_tree : Sequences → ℕ → Bool
in_tree s m = interval_passes (λ x. in_tree_state x.stage) (interval_at s m)

-- the insert of the mirror's interval is deferred
abbrev pub insert_deferred : Sequences → ℕ → Bool
insert_deferred s m = interval_passes (λ x. deferred_state x.stage) (interval_at s m)

-- the removal of the mirror's interval is deferred
abbrev pub is_leaving : Sequences → ℕ → Bool
is_leaving s m = interval_passes (λ x. leaving_state x.stage) (interval_at s m)

-- in the tree, or inserted and deferred
abbrev pub is_present : Sequences → ℕ → Bool
is_present s m = interval_passes (λ x. in_tree_state x.stage || deferred_state x.stage) (interval_at s m)

-- the sequence of a mirror's interval; 0 without one, which no process has
abbrev pub interval_seq : Sequences → ℕ → ℕ
interval_seq s m = elim (interval_at s m) [ None ↦ 0 | Some x ↦ x.seq ]

-- the interval in the tree overlaps the span
abbrev pub overlaps : Sequences → Pages → ℕ → Bool
overlaps s r m = interval_passes (λ x. in_tree_state x.stage && overlap x.window r) (interval_at s m)

-- the mirrors whose interval overlaps the span, in rising number
abbrev pub overlapping : Sequences → Pages → List ℕ
overlapping s r = filter (overlaps s r) all_ids

-- the least such number above the last that was told
abbrev pub next_told : Sequences → Pages → Option ℕ → Option ℕ
next_told s r after = find (is_above after) (overlapping s r)

-- an invalidation of the span meets an interval, and so makes the sequence odd
abbrev pub some_overlap : Sequences → Pages → Bool
some_overlap s r = nat_lt 0 (length (overlapping s r))

-- the process's sequence after a start: it becomes odd if the invalidation meets an interval
abbrev pub seq_started : Sequences → Pages → ℕ
seq_started s r = if some_overlap s r && not (is_odd s.seq) then s.seq + 1 else s.seq

-- the invalidation that ends is the last one, and the sequence is odd, so it becomes even
abbrev pub moves_on : Sequences → Bool
moves_on s = (s.active == 1) && is_odd s.seq

-- the process's sequence after an invalidation has ended
abbrev pub seq_ended : Sequences → ℕ
seq_ended s = if moves_on s then s.seq + 1 else s.seq

-- an insert makes the sequence odd: invalidations are under way, and none of them met an interval
abbrev pub raised_by_insert : Sequences → Bool
raised_by_insert s = not (is_odd s.seq) && nat_lt 0 s.active

-- the process's sequence after an insert
abbrev pub seq_inserted : Sequences → ℕ
seq_inserted s = if raised_by_insert s then s.seq + 1 else s.seq

-- the sequence that an inserted interval has. It is the process's while an invalidation is under way, so that look-
-- ups wait for its end
abbrev pub interval_inserted : Sequences → ℕ
interval_inserted s = if is_odd s.seq then s.seq else if nat_lt 0 s.active then s.seq + 1 else (s.seq - 1)

-- the stage of an interval after its deferred insert or removal was made
abbrev pub settled_stage : Stage → Stage
settled_stage InTree = InTree
settled_stage InsertDeferred = InTree
settled_stage RemoveDeferred = Out
settled_stage Out = Out

-- an interval after its deferred change was made
abbrev pub settled : Option Interval → Option Interval
settled None = None
settled (Some x) = Some (record x { stage = settled_stage x.stage })

-- an interval with another sequence
abbrev pub with_seq : ℕ → Option Interval → Option Interval
with_seq q None = None
with_seq q (Some x) = Some (record x { seq = q })

-- an interval at another stage
abbrev pub with_stage : Stage → Option Interval → Option Interval
with_stage t None = None
with_stage t (Some x) = Some (record x { stage = t })

-- ---- what each call leaves

-- an invalidation has begun
abbrev pub started : Sequences → Pages → Sequences
started s r = record s { seq = seq_started s r; active = s.active + 1 }

-- a mirror was told: its interval has this sequence, that of the invalidation
abbrev pub told : Sequences → ℕ → ℕ → Sequences
told s m q = record s { intervals = slice_set s.intervals m (with_seq q (interval_at s m)) }

-- an invalidation has ended; if it was the last, what was deferred is made
abbrev pub ended : Sequences → Sequences
ended s =
    record {
      seq = seq_ended s;
      active = s.active - 1;
      intervals = if moves_on s then map settled s.intervals else s.intervals;
      room = s.room;
    }

-- an interval more: in the tree at once if the sequence is even, and else deferred
abbrev pub inserted : Sequences → ℕ → Pages → Sequences
inserted s m r = record s {
  seq = seq_inserted s;
  intervals =
      slice_set s.intervals m
      (Some (record {
        window = r;
        seq = interval_inserted s;
        stage = if is_odd s.seq then InsertDeferred else InTree;
      }));
  room = false;
}

-- the state with a mirror's interval at another stage
abbrev pub at_stage : Sequences → ℕ → Stage → Sequences
at_stage s m t = record s { intervals = slice_set s.intervals m (with_stage t (interval_at s m)) }

-- a remove waits if and only if the sequence is odd and the interval is in the tree
abbrev pub removal_waits : Sequences → ℕ → Bool
removal_waits s m = is_odd s.seq && in_tree s m

-- what a removal answers: that it is made, or which sequence its caller has to wait for
abbrev pub removal_of : Sequences → ℕ → Removal
removal_of s m = if removal_waits s m then WaitFor s.seq else Removed

-- a mirror's interval goes: at once, or when the invalidation ends
abbrev pub removed : Sequences → ℕ → Sequences
removed s m = at_stage s m (if removal_waits s m then RemoveDeferred else Out)

-- a look-up waits exactly if the interval was told in the invalidation under way
abbrev pub begin_of : Sequences → ℕ → Begin
begin_of s m = if interval_seq s m == s.seq then Invalidating (interval_seq s m) else Ready (interval_seq s m)
