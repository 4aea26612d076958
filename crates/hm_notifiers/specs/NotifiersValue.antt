-- The notifiers of each process, and the process that each mirror's interval belongs to, as contracts see them.
use Rattle.std.specs.Prelude.{◌≡◌, ℕ, ◌^◌, ◌<◌, ◌≤◌, Bool, true, false, if◌then◌else◌, Option, Some, None, IsSome}
use Rattle.std.specs.Prelude.{unwrap_or, List, [], length, replicate, slice_index_or, slice_set, ⊤}
use Rattle.hm_base.specs.Pages.{Pages}
use Rattle.hm_history.specs.declared.Kind.{Kind}
use Rattle.notifier_seq.specs.Sequences as one

-- by process, and by mirror
pub record NotifiersValue : Type 0 where
  pub of_process : List one.Sequences
  pub procs : List (Option ℕ)

unfoldable pub all_start : List one.Sequences
all_start = replicate 32 one.sequences_start

-- each process before its first mirror
abbrev pub notifiers_start : NotifiersValue
notifiers_start = record { of_process = all_start; procs = replicate 32 None }

-- what is read of a process number that is out of range
abbrev pub nothing : one.Sequences
nothing = record { seq = 0; active = 0; intervals = []; room = false }

-- the sequence, invalidations and intervals of a process
abbrev pub of_proc : NotifiersValue → ℕ → one.Sequences
of_proc x p = slice_index_or x.of_process p nothing

-- the process of a mirror's interval; 0 if it was never attached
abbrev pub proc_at : NotifiersValue → ℕ → Option ℕ
proc_at x m = slice_index_or x.procs m None

-- the process of a mirror's interval; 0 if the mirror never came
abbrev pub proc_of : NotifiersValue → ℕ → ℕ
proc_of x m = unwrap_or (proc_at x m) 0

-- the notifiers that have a mirror's interval
abbrev pub of_mirror : NotifiersValue → ℕ → one.Sequences
of_mirror x m = of_proc x (proc_of x m)

-- what is read
abbrev pub seq_of : NotifiersValue → ℕ → ℕ
seq_of x p = (of_proc x p).seq

-- how many invalidations of a process are under way
abbrev pub active_of : NotifiersValue → ℕ → ℕ
active_of x p = (of_proc x p).active

-- the sequence of a mirror's interval
abbrev pub interval_seq_of : NotifiersValue → ℕ → ℕ
interval_seq_of x m = one.interval_seq (of_mirror x m) m

-- a mirror's interval is in the tree of its process
abbrev pub in_tree_of : NotifiersValue → ℕ → Bool
in_tree_of x m = one.in_tree (of_mirror x m) m

-- the insert of a mirror's interval is deferred
abbrev pub insert_deferred_of : NotifiersValue → ℕ → Bool
insert_deferred_of x m = one.insert_deferred (of_mirror x m) m

-- the next mirror that an invalidation of a span tells
abbrev pub next_told_of : NotifiersValue → ℕ → Pages → Option ℕ → Option ℕ
next_told_of x p r after = one.next_told (of_proc x p) r after

-- an invalidation of a span meets an interval of the process
abbrev pub some_overlap_of : NotifiersValue → ℕ → Pages → Bool
some_overlap_of x p r = one.some_overlap (of_proc x p) r

-- the sequence of a process after a start
abbrev pub seq_started_of : NotifiersValue → ℕ → Pages → ℕ
seq_started_of x p r = one.seq_started (of_proc x p) r

-- the sequence of a process after an end
abbrev pub seq_ended_of : NotifiersValue → ℕ → ℕ
seq_ended_of x p = one.seq_ended (of_proc x p)

-- the sequence that an interval would get that is inserted now
abbrev pub interval_inserted_of : NotifiersValue → ℕ → ℕ
interval_inserted_of x p = one.interval_inserted (of_proc x p)

-- what an entry leaves
abbrev pub with_proc : NotifiersValue → ℕ → one.Sequences → NotifiersValue
with_proc x p y = record x { of_process = slice_set x.of_process p y }

-- the mirror's interval goes, at once or when the sequence moves; one that is out stays
abbrev pub without_interval : NotifiersValue → ℕ → NotifiersValue
without_interval x m =
    if one.is_present (of_mirror x m) m then with_proc x (proc_of x m) (one.removed (of_mirror x m) m) else x

-- the notifiers with one interval more, which is its process's from then on
abbrev pub with_interval : NotifiersValue → ℕ → ℕ → Pages → NotifiersValue
with_interval x m p r = record {
  of_process = slice_set x.of_process p (one.inserted (of_proc x p) m r);
  procs = slice_set x.procs m (Some p);
}

-- the notifiers after an entry; a kind that is not here leaves them as they are
abbrev pub notifiers_next : Kind → NotifiersValue → NotifiersValue
notifiers_next (Kind.Start p r q) x = with_proc x p (one.started (of_proc x p) r)
notifiers_next (Kind.Told m r q) x = with_proc x (proc_of x m) (one.told (of_mirror x m) m (of_mirror x m).seq)
notifiers_next (Kind.End p r q) x = with_proc x p (one.ended (of_proc x p))
notifiers_next (Kind.Attached m d p r q) x = with_interval x m p r
notifiers_next (Kind.Detaching m q) x = without_interval x m
notifiers_next (Kind.Detached m) x = without_interval x m
notifiers_next k x = x

-- what the change asks for: no number passes its bound, an invalidation that ends is under way, an interval that is
-- told is there, one that comes is not, and one that goes does not wait to leave already
abbrev pub CanStep : Kind → NotifiersValue → Type 0
CanStep (Kind.Start p r q) x = p < 32 → (seq_of x p < 2 ^ 63) × (active_of x p < 2 ^ 63)
CanStep (Kind.Told m r q) x = IsSome (one.interval_at (of_mirror x m) m)
CanStep (Kind.End p r q) x = p < 32 → (seq_of x p < 2 ^ 63) × (1 ≤ active_of x p)
CanStep (Kind.Attached m d p r q) x = m < 32 → p < 32 → one.interval_at (of_proc x p) m ≡ None
CanStep (Kind.Detaching m q) x = one.is_leaving (of_mirror x m) m ≡ false
CanStep (Kind.Detached m) x = one.is_leaving (of_mirror x m) m ≡ false
CanStep k x = ⊤

-- the same but for the room
pub record SameNotifiers (x y : NotifiersValue) : Type 0 where
  pub procs : y.procs ≡ x.procs
  pub count : length y.of_process ≡ length x.of_process
  pub seqs : (p : ℕ) → (of_proc y p).seq ≡ (of_proc x p).seq
  pub actives : (p : ℕ) → (of_proc y p).active ≡ (of_proc x p).active
  pub intervals : (p : ℕ) → (of_proc y p).intervals ≡ (of_proc x p).intervals

-- there is room for what an entry of this kind changes
abbrev pub NotifiersRoom : Kind → NotifiersValue → Type 0
NotifiersRoom (Kind.Attached m d p r q) x = p < 32 → (of_proc x p).room ≡ true
NotifiersRoom k x = ⊤

-- the numbers of a mirror that comes
abbrev pub InRange : Kind → Type 0
InRange (Kind.Attached m d p r q) = (m < 32) × (p < 32)
InRange k = ⊤
