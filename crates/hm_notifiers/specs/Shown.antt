-- The notifiers show the sequences of a history, and what a change of them asks of these.
use Rattle.std.specs.Prelude.{◌≡◌, ℕ, ◌+◌, ◌^◌, ◌<◌, ◌≤◌, Bool, true, false, not, ◌==◌, if◌then◌else◌, Option, Some}
use Rattle.std.specs.Prelude.{None, is_some, option_map, length, ⊤}
use Rattle.hm_history.specs.Memory.Sequences.{Sequences, Interval, Stage, InTree, InsertDeferred, RemoveDeferred}
use Rattle.hm_history.specs.Memory.Sequences.{Removed, Out, is_odd, interval_passes}
use Rattle.hm_history.specs.declared.Kind.{Kind}
use Rattle.notifier_seq.specs.declared.interval.Interval.{Interval as Kept}
use Rattle.notifier_seq.specs.declared.interval.Stage.{Stage as Position}
use Rattle.notifier_seq.specs.Sequences as one
use Rattle.hm_notifiers.specs.NotifiersValue.{NotifiersValue, of_proc, proc_at}

-- whether the detach of an interval that is out has answered is not kept
abbrev pub position_of : Stage → Position
position_of InTree = Position.InTree
position_of InsertDeferred = Position.InsertDeferred
position_of RemoveDeferred = Position.RemoveDeferred
position_of Removed = Position.Out
position_of Out = Position.Out

-- an interval of the definitions, as notifier_seq keeps it; its process stands beside it
abbrev pub kept_of : Interval → Kept
kept_of y = record { window = y.window; seq = y.seq; stage = position_of y.stage }

-- an interval lies with its own process
abbrev pub interval_of : ℕ → Option Interval → Option Kept
interval_of p None = None
interval_of p (Some y) = if y.proc == p then Some (kept_of y) else None

-- an entry raises a sequence and a count by one at most
pub record IsBounded (n : ℕ) (seq active : ℕ → ℕ) : Type 0 where
  pub low : (p : ℕ) → seq p ≤ n + 2
  pub few : (p : ℕ) → active p ≤ n

-- after n entries
pub record NotifiersValueShown (n : ℕ) (seq active : ℕ → ℕ) (interval : ℕ → Option Interval)
    (x : NotifiersValue) : Type 0 where
  pub processes : length x.of_process ≡ 32
  pub mirrors : length x.procs ≡ 32
  pub numbers : (p : ℕ) → p < 32 → length (of_proc x p).intervals ≡ 32
  pub seqs : (p : ℕ) → p < 32 → (of_proc x p).seq ≡ seq p
  pub actives : (p : ℕ) → p < 32 → (of_proc x p).active ≡ active p
  pub procs : (m : ℕ) → m < 32 → proc_at x m ≡ option_map (λ y. y.proc) (interval m)
  pub in_range : (m : ℕ) (y : Interval) → interval m ≡ Some y → (m < 32) × (y.proc < 32)
  pub intervals : (p m : ℕ) → p < 32 → m < 32 → one.interval_at (of_proc x p) m ≡ interval_of p (interval m)
  pub bounded : IsBounded n seq active

-- an interval leaves when the sequence moves, or at once, or is out
abbrev pub leaves_later : Stage → Bool → Bool
leaves_later InTree odd = odd
leaves_later _ odd = false

-- whether a removal is made at once, by the interval's stage and whether its process's sequence is odd
abbrev pub leaves_now : Stage → Bool → Bool
leaves_now InTree odd = not odd
leaves_now RemoveDeferred odd = false
leaves_now _ odd = true

-- what a change asks of the state after n entries
abbrev pub NotifiersValueFit : ℕ → Sequences → Kind → Type 0
NotifiersValueFit n s (Kind.Start p r q) = n < 2 ^ 62
NotifiersValueFit n s (Kind.Told m r q) = is_some (s.interval m) ≡ true
NotifiersValueFit n s (Kind.End p r q) = (n < 2 ^ 62) × (1 ≤ s.active p)
NotifiersValueFit n s (Kind.Attached m d p r q) = s.interval m ≡ None
NotifiersValueFit n s (Kind.Detaching m q) =
    interval_passes (λ y. leaves_later y.stage (is_odd (s.seq y.proc))) (s.interval m) ≡ true
NotifiersValueFit n s (Kind.Detached m) =
    interval_passes (λ y. leaves_now y.stage (is_odd (s.seq y.proc))) (s.interval m) ≡ true
NotifiersValueFit n s k = ⊤
