-- What is kept of the sequences: by number, as lists. Contracts see the functions of the definitions.
use Rattle.std.specs.Prelude.{ℕ, Bool, false, ◌&&◌, ◌==◌, Option, Some, None, List, filter, count_by, slice_index_or}
use Rattle.hm_history.specs.Memory.Words.{numbers, with_at}
use Rattle.hm_base.specs.Pages.{Pages, overlap}
use Rattle.hm_history.specs.Memory.Sequences.{Interval, Guarded, Sequences, Stage, interval_passes, in_tree_state}
use Rattle.hm_history.specs.Memory.Sequences.{with_stage}
use Rattle.hm_history.specs.Memory.Sequences as stage
use Rattle.hm_folds.specs.declared.intervals.KeptInterval.{KeptInterval}
use Rattle.hm_folds.specs.declared.intervals.KeptStage.{KeptStage}
use Rattle.hm_folds.specs.declared.intervals.KeptStage.TheVariants.{InTree, InsertDeferred, RemoveDeferred, Removed}
use Rattle.hm_folds.specs.declared.intervals.KeptStage.TheVariants.{Out}
use Rattle.hm_folds.specs.declared.guards.KeptGuard.{KeptGuard}
use Rattle.hm_folds.specs.declared.sequences.SeqState.{SeqState}

-- the number is in the set
abbrev pub has_mirror : List Bool → ℕ → Bool
has_mirror set m = slice_index_or set m false

-- the numbers of a set of mirrors, in rising order
abbrev pub mirrors_of : List Bool → List ℕ
mirrors_of set = filter (has_mirror set) (numbers 0 32)

-- the stage of the definitions that a kept stage stands for
abbrev pub stage_of : KeptStage → Stage
stage_of InTree = stage.InTree
stage_of InsertDeferred = stage.InsertDeferred
stage_of RemoveDeferred = stage.RemoveDeferred
stage_of Removed = stage.Removed
stage_of Out = stage.Out

-- the interval of the definitions that a kept one stands for
abbrev pub interval_of : Option KeptInterval → Option Interval
interval_of None = None
interval_of (Some x) = Some (record { proc = x.proc; window = x.window; seq = x.seq; stage = stage_of x.stage })

-- of a list of intervals, that of a mirror
abbrev pub interval_at : List (Option KeptInterval) → ℕ → Option Interval
interval_at intervals m = interval_of (slice_index_or intervals m None)

-- the sequence and the process of an interval; 0 if there is none
abbrev pub seq_in : Option Interval → ℕ
seq_in o = elim o [ None ↦ 0 | Some x ↦ x.seq ]

-- the process of an interval; 0 if there is none
abbrev pub proc_in : Option Interval → ℕ
proc_in o = elim o [ None ↦ 0 | Some x ↦ x.proc ]

-- the interval is in the tree of that process, and overlaps the span
abbrev pub overlaps_in : ℕ → Pages → Option Interval → Bool
overlaps_in p r o = interval_passes (λ x. in_tree_state x.stage && ((x.proc == p) && overlap x.window r)) o

-- the interval of a mirror is in the tree of that process, and overlaps the span
abbrev pub overlaps_at : List (Option KeptInterval) → ℕ → Pages → ℕ → Bool
overlaps_at intervals p r m = overlaps_in p r (interval_at intervals m)

-- the guard of the definitions that a kept one stands for
abbrev pub guarded : KeptGuard → Guarded
guarded g = record { proc = g.proc; span = g.span; met = mirrors_of g.met; told = mirrors_of g.told }

-- the same of an actor that may have no guard
abbrev pub guard_of : Option KeptGuard → Option Guarded
guard_of None = None
guard_of (Some g) = Some (guarded g)

-- the process and the span of an invalidation under way
abbrev pub under_way : Option Guarded → Option (ℕ × Pages)
under_way None = None
under_way (Some g) = Some (g.proc, g.span)

-- the guard is of that process
abbrev pub guards_proc : ℕ → Option KeptGuard → Bool
guards_proc p None = false
guards_proc p (Some g) = g.proc == p

-- the sequences of a state: an invalidation of a process is under way for each guard of that process
abbrev pub sequences_of : SeqState → Sequences
sequences_of x = record {
  seq = λ p. slice_index_or x.seqs p 2;
  active = λ p. count_by (guards_proc p) x.guards;
  interval = interval_at x.intervals;
  guard = λ a. guard_of (slice_index_or x.guards a None);
}

-- the state with a mirror's interval at a stage
abbrev pub standing : Sequences → ℕ → Stage → Sequences
standing s m t = record s { interval = with_at s.interval m (with_stage t (s.interval m)) }
