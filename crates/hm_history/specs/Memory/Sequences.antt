-- Invalidations, intervals and their sequences: mm/mmu_notifier.c, with its deferred inserts and removes. That mirrors
-- are told in rising number is this project's rule.
use Rattle.std.specs.Prelude.{ℕ, ◌+◌, ◌-◌, ◌%◌, Bool, true, false, not, ◌&&◌, ◌||◌, nat_lt, nat_le, ◌==◌, if◌then◌else◌}
use Rattle.std.specs.Prelude.{Option, Some, None, is_some, is_none, List, [], ◌∷◌, ◌++◌, filter, find, length}
use Rattle.std.specs.List.{list_any, list_all}
use Rattle.hm_base.specs.Pages.{Pages, overlap}
use Rattle.hm_history.specs.Memory.Words.{with_at, numbers}
use Rattle.hm_history.specs.declared.Kind.{Kind}

-- where an interval is
pub data Stage : Type 0 where
  InTree : Stage
  InsertDeferred : Stage
  RemoveDeferred : Stage  -- it is still in the tree
  Removed : Stage  -- the deferred removal was made, and its detach has not answered
  Out : Stage

-- a mirror's interval (`struct mmu_interval_notifier`): its process, window, sequence and stage
pub record Interval : Type 0 where
  pub proc : ℕ
  pub window : Pages
  pub seq : ℕ
  pub stage : Stage

-- the guard that an actor has under way: the intervals that overlapped at its start, and those told in it
pub record Guarded : Type 0 where
  pub proc : ℕ
  pub span : Pages
  pub met : List ℕ
  pub told : List ℕ

-- per process its sequence and how many invalidations are under way; the intervals; the guard of each actor
pub record Sequences : Type 0 where
  pub seq : ℕ → ℕ
  pub active : ℕ → ℕ
  pub interval : ℕ → Option Interval
  pub guard : ℕ → Option Guarded

-- at the start each sequence is 2 and nobody invalidates
abbrev pub sequences_start : Sequences
sequences_start = record { seq = λ p. 2; active = λ p. 0; interval = λ m. None; guard = λ a. None }

-- an odd sequence: an invalidation is under way that met an interval
abbrev pub is_odd : ℕ → Bool
is_odd n = n % 2 == 1

-- it is in the tree, also while its removal is deferred
abbrev pub in_tree_state : Stage → Bool
in_tree_state InTree = true
in_tree_state InsertDeferred = false
in_tree_state RemoveDeferred = true
in_tree_state Removed = false
in_tree_state Out = false

-- its insert is deferred
abbrev pub deferred_state : Stage → Bool
deferred_state InsertDeferred = true
deferred_state _ = false

-- its deferred removal was made
abbrev pub removed_state : Stage → Bool
removed_state Removed = true
removed_state _ = false

-- the interval is there and passes the test
abbrev pub interval_passes : (Interval → Bool) → Option Interval → Bool
interval_passes test None = false
interval_passes test (Some x) = test x

-- the mirror's interval is in the tree
abbrev pub in_tree : Sequences → ℕ → Bool
in_tree s m = interval_passes (λ x. in_tree_state x.stage) (s.interval m)

-- the mirror's insert is deferred
abbrev pub insert_deferred : Sequences → ℕ → Bool
insert_deferred s m = interval_passes (λ x. deferred_state x.stage) (s.interval m)

-- the sequence of a mirror's interval
abbrev pub interval_seq : Sequences → ℕ → ℕ
interval_seq s m = elim (s.interval m) [ None ↦ 0 | Some x ↦ x.seq ]

-- the process of a mirror's interval
abbrev pub interval_proc : Sequences → ℕ → ℕ
interval_proc s m = elim (s.interval m) [ None ↦ 0 | Some x ↦ x.proc ]

-- the interval in the tree of process p overlaps the span
abbrev pub overlaps : Sequences → ℕ → Pages → ℕ → Bool
overlaps s p r m =
    interval_passes (λ x. in_tree_state x.stage && ((x.proc == p) && overlap x.window r)) (s.interval m)

-- the mirrors whose interval overlaps the span, in rising number
abbrev pub overlapping : Sequences → ℕ → Pages → List ℕ
overlapping s p r = filter (overlaps s p r) (numbers 0 32)

-- the number is above the last mirror that was told, if one was
abbrev pub is_above : Option ℕ → ℕ → Bool
is_above None m = true
is_above (Some k) m = nat_lt k m

-- the next mirror that an invalidation of the span tells
abbrev pub next_told : Sequences → ℕ → Pages → Option ℕ → Option ℕ
next_told s p r after = find (is_above after) (overlapping s p r)

-- an interval of the process overlaps the span
abbrev pub some_overlap : Sequences → ℕ → Pages → Bool
some_overlap s p r = nat_lt 0 (length (overlapping s p r))

-- a process's sequence after a start: it becomes odd if the invalidation meets an interval
abbrev pub seq_started : Sequences → ℕ → Pages → ℕ
seq_started s p r = if some_overlap s p r && not (is_odd (s.seq p)) then s.seq p + 1 else s.seq p

-- this end is the last of those under way, and the sequence becomes even (`mn_itree_inv_end`)
abbrev pub is_last_end : Sequences → ℕ → Bool
is_last_end s p = (s.active p == 1) && is_odd (s.seq p)

-- the sequence after an end
abbrev pub seq_ended : Sequences → ℕ → ℕ
seq_ended s p = if is_last_end s p then s.seq p + 1 else s.seq p

-- an insert under an invalidation that met nobody makes the sequence odd
abbrev pub raised_by_insert : Sequences → ℕ → Bool
raised_by_insert s p = not (is_odd (s.seq p)) && nat_lt 0 (s.active p)

-- the sequence after an insert
abbrev pub seq_inserted : Sequences → ℕ → ℕ
seq_inserted s p = if raised_by_insert s p then s.seq p + 1 else s.seq p

-- odd: the insert is deferred; even under an invalidation: the sequence becomes odd; with none under way: as told by
-- the last one (`__mmu_interval_notifier_insert`)
abbrev pub interval_inserted : Sequences → ℕ → ℕ
interval_inserted s p =
    if is_odd (s.seq p) then s.seq p else if nat_lt 0 (s.active p) then s.seq p + 1 else (s.seq p - 1)

-- the stage of an interval after its deferred insert or removal was made
abbrev pub applied_stage : Stage → Stage
applied_stage InTree = InTree
applied_stage InsertDeferred = InTree
applied_stage RemoveDeferred = Removed
applied_stage Removed = Removed
applied_stage Out = Out

-- an interval of the process after its deferred insert or removal was made
abbrev pub applied : ℕ → Option Interval → Option Interval
applied p None = None
applied p (Some x) = if x.proc == p then Some (record x { stage = applied_stage x.stage }) else Some x

-- the interval with this sequence
abbrev pub with_seq : ℕ → Option Interval → Option Interval
with_seq q None = None
with_seq q (Some x) = Some (record x { seq = q })

-- the interval at this stage
abbrev pub with_stage : Stage → Option Interval → Option Interval
with_stage t None = None
with_stage t (Some x) = Some (record x { stage = t })

-- the guard with one more mirror told
abbrev pub with_told : ℕ → Option Guarded → Option Guarded
with_told m None = None
with_told m (Some g) = Some (record g { told = g.told ++ m ∷ [] })

-- the intervals after an end
abbrev pub intervals_ended : Sequences → ℕ → ℕ → Option Interval
intervals_ended s p m = if is_last_end s p then applied p (s.interval m) else s.interval m

-- the sequences after an entry of an actor
abbrev pub sequences_next : Sequences → ℕ → Kind → Sequences
sequences_next s a (Kind.Start p r q) = record s {
  seq = with_at s.seq p (seq_started s p r);
  active = with_at s.active p (s.active p + 1);
  guard = with_at s.guard a (Some (record { proc = p; span = r; met = overlapping s p r; told = [] }));
}
sequences_next s a (Kind.Told m r q) = record s {
  interval = with_at s.interval m (with_seq (s.seq (interval_proc s m)) (s.interval m));
  guard = with_at s.guard a (with_told m (s.guard a));
}
sequences_next s a (Kind.End p r q) = record s {
  seq = with_at s.seq p (seq_ended s p);
  active = with_at s.active p (s.active p - 1);
  interval = intervals_ended s p;
  guard = with_at s.guard a None;
}
sequences_next s a (Kind.Attached m d p r q) = record s {
  seq = with_at s.seq p (seq_inserted s p);
  interval =
      with_at s.interval m (Some (record {
        proc = p;
        window = r;
        seq = interval_inserted s p;
        stage = if is_odd (s.seq p) then InsertDeferred else InTree;
      }));
}
sequences_next s a (Kind.Detaching m q) =
    record s { interval = with_at s.interval m (with_stage RemoveDeferred (s.interval m)) }
sequences_next s a (Kind.Detached m) = record s { interval = with_at s.interval m (with_stage Out (s.interval m)) }
sequences_next s a _ = s

-- the two spans are the same
abbrev pub same_span : Pages → Pages → Bool
same_span r t = (r.first == t.first) && (r.count == t.count)

-- the actor has a guard that passes the test
abbrev pub guard_passes : (Guarded → Bool) → Option Guarded → Bool
guard_passes test None = false
guard_passes test (Some g) = test g

-- each interval that overlapped at the start was told
abbrev pub all_told : Guarded → Bool
all_told g = list_all (λ m. list_any (λ k. k == m) g.told) g.met

-- none that was told is above it, and none that overlaps and was not told is below it
abbrev pub is_next_told : Sequences → Guarded → ℕ → Bool
is_next_told s g m = list_all (λ k. nat_lt k m) g.told
    && (overlaps s g.proc g.span m
    && list_all (λ k. nat_le m k || list_any (λ t. t == k) g.told) (overlapping s g.proc g.span))

-- whether there is a next state of sequences, for an entry of an actor
abbrev pub sequences_accept : Sequences → ℕ → Kind → Bool
sequences_accept s a (Kind.Start p r q) = is_none (s.guard a) && (q == seq_started s p r)
sequences_accept s a (Kind.Told m r q) =
    guard_passes (λ g. same_span g.span r && (nat_lt 0 (length g.met) &&
    (is_next_told s g m && (q == s.seq g.proc)))) (s.guard a)
sequences_accept s a (Kind.End p r q) =
    guard_passes (λ g. (g.proc == p) && (same_span g.span r && all_told g)) (s.guard a) && (q == seq_ended s p)
sequences_accept s a (Kind.Attached m d p r q) = q == interval_inserted s p
sequences_accept s a (Kind.Detaching m q) = let p = interval_proc s m in
    is_odd (s.seq p) && (in_tree s m && (q == s.seq p))
sequences_accept s a (Kind.Detached m) = insert_deferred s m
    || (in_tree s m && not (is_odd (s.seq (interval_proc s m)))
    || interval_passes (λ x. removed_state x.stage) (s.interval m))
sequences_accept s a (Kind.Begin m q) =
    is_some (s.interval m) && ((q == interval_seq s m) && not (q == s.seq (interval_proc s m)))
sequences_accept s a _ = true
