-- The notifiers of one process change, and with them what they show.
use Rattle.std.proofs.Common.{◌≡◌, ℕ, ◌+◌, ◌<◌, ◌≤◌, Option, Some, None, List, length, refl, sym, ap, subst, ◌∙◌, arith}
use Rattle.std.specs.Prelude.{option_map, slice_index_or, slice_set, ◌==◌, if◌then◌else◌}
use Rattle.hm_history.specs.Memory.Words.{with_at}
use Rattle.hm_history.specs.Memory.Sequences.{Interval}
use Rattle.notifier_seq.specs.declared.interval.Interval.{Interval as Kept}
use Rattle.notifier_seq.specs.Sequences as one
use Rattle.hm_notifiers.specs.NotifiersValue.{NotifiersValue, of_proc, with_proc, nothing}
use Rattle.hm_notifiers.specs.Shown.{interval_of, kept_of, IsBounded, NotifiersValueShown}
use Rattle.hm_notifiers.proofs.Intervals.{mine, not_mine}
use Rattle.hm_history.proofs.Updates.{other_at, here_at, with_case, at_set, len_set}

-- from one state to another the notifiers of process p change to y
pub record IsChange (n p : ℕ) (y : one.Sequences) (seq active : ℕ → ℕ) (interval : ℕ → Option Interval) (next_seq next_active : ℕ → ℕ) (next_interval : ℕ → Option Interval) : Type 0 where
  pub seq_here : p < 32 → y.seq ≡ next_seq p
  pub active_here : p < 32 → y.active ≡ next_active p
  pub len_here : p < 32 → length y.intervals ≡ 32
  pub intervals_here : (m : ℕ) → p < 32 → m < 32 → one.interval_at y m ≡ interval_of p (next_interval m)
  pub seq_else : (q : ℕ) → (q ≡ p → ⊥) → next_seq q ≡ seq q
  pub active_else : (q : ℕ) → (q ≡ p → ⊥) → next_active q ≡ active q
  pub intervals_else : (q m : ℕ) → (q ≡ p → ⊥) → m < 32 → interval_of q (next_interval m) ≡ interval_of q (interval m)
  pub in_range : (m : ℕ) (z : Interval) → next_interval m ≡ Some z → (m < 32) × (z.proc < 32)
  pub next_bounded : IsBounded (n + 1) next_seq next_active

abbrev one_with : NotifiersValue → ℕ → one.Sequences → List (Option ℕ) → NotifiersValue
one_with x p y zs = record { of_process = slice_set x.of_process p y; procs = zs }

-- what holds of each process holds of each after the change
each_of : (P : ℕ → one.Sequences → Type 0) (x : NotifiersValue) (p : ℕ) (y : one.Sequences) (zs : List (Option ℕ)) → length x.of_process ≡ 32 → (p < 32 → P p y) → ((q : ℕ) → (q ≡ p → ⊥) → q < 32 → P q (of_proc x q))
    → (q : ℕ) → q < 32 → P q (of_proc (one_with x p y zs) q)
each_of P x p y zs n here other q l =
    subst (P q) (sym (at_set (of_proc x) x.of_process p y nothing q (omega (arith, n)) refl))
    (with_case P (of_proc x) p y q (λ e. here (omega arith)) (λ ne. other q ne l))

pub changed : (n p : ℕ) (y : one.Sequences) (seq active : ℕ → ℕ) (interval : ℕ → Option Interval) (next_seq next_active : ℕ → ℕ) (next_interval : ℕ → Option Interval) (x : NotifiersValue) (zs : List (Option ℕ))
    → NotifiersValueShown n seq active interval x → IsChange n p y seq active interval next_seq next_active next_interval
    → length zs ≡ 32 → ((m : ℕ) → m < 32 → slice_index_or zs m None ≡ option_map (λ z. z.proc) (next_interval m))
    → NotifiersValueShown (n + 1) next_seq next_active next_interval (record { of_process = slice_set x.of_process p y; procs = zs })
changed n p y seq active interval next_seq next_active next_interval x zs h c l at = record {
  processes = len_set x.of_process p y 32 h.processes;
  mirrors = l;
  numbers = each_of (λ q v. length v.intervals ≡ 32) x p y zs h.processes c.len_here (λ q ne m. h.numbers q m);
  seqs = each_of (λ q v. v.seq ≡ next_seq q) x p y zs h.processes c.seq_here (λ q ne m. h.seqs q m ∙ sym (c.seq_else q ne));
  actives = each_of (λ q v. v.active ≡ next_active q) x p y zs h.processes c.active_here (λ q ne m. h.actives q m ∙ sym (c.active_else q ne));
  procs = at;
  in_range = c.in_range;
  intervals = λ q m k j. each_of (λ q v. one.interval_at v m ≡ interval_of q (next_interval m)) x p y zs h.processes (λ o. c.intervals_here m o j) (λ q ne o. h.intervals q m o j ∙ sym (c.intervals_else q m ne j)) q k;
  bounded = c.next_bounded;
}

-- the interval of a mirror changes, but not its process
abbrev pub with_kept : one.Sequences → ℕ → Interval → one.Sequences
with_kept y m z = record y { intervals = slice_set y.intervals m (Some (kept_of z)) }

same_proc : (interval : ℕ → Option Interval) (m k : ℕ) (y z : Interval) → interval m ≡ Some y → z.proc ≡ y.proc → option_map (λ w. w.proc) (with_at interval m (Some z) k) ≡ option_map (λ w. w.proc) (interval k)
same_proc interval m k y z e p = with_case (λ j o. option_map (λ w. w.proc) o ≡ option_map (λ w. w.proc) (interval j)) interval m (Some z) k (λ _. rw (e, p) refl) (λ _. refl)

-- an interval stays in range where its process stays
pub in_range_of : (interval next : ℕ → Option Interval) → ((m : ℕ) → option_map (λ w. w.proc) (next m) ≡ option_map (λ w. w.proc) (interval m)) → ((m : ℕ) (w : Interval) → interval m ≡ Some w → (m < 32) × (w.proc < 32)) → (m : ℕ) (z : Interval) → next m ≡ Some z → (m < 32) × (z.proc < 32)
in_range_of interval next same h m z e = by (interval m) refl
  where
    by : (o : Option Interval) → interval m ≡ o → (m < 32) × (z.proc < 32)
    by None k = let no : Some z.proc ≡ None = sym (ap (option_map (λ (w : Interval). w.proc)) e) ∙ same m ∙ ap (option_map (λ (w : Interval). w.proc)) k in absurd (let b : ⊥ = cc in b)
    by (Some y) k =
        let some : Some z.proc ≡ Some y.proc = sym (ap (option_map (λ (w : Interval). w.proc)) e) ∙ same m ∙ ap (option_map (λ (w : Interval). w.proc)) k in
        let at : z.proc ≡ y.proc = cc in
        ((h m y k).0, omega (arith, at, (h m y k).1))

-- bounds
pub bounded_same : (n : ℕ) (seq active : ℕ → ℕ) → IsBounded n seq active → IsBounded (n + 1) seq active
bounded_same n seq active h = record { low = λ p. omega (arith, h.low p); few = λ p. omega (arith, h.few p) }

pub bounded_with : (n : ℕ) (seq active : ℕ → ℕ) (p v w : ℕ) → IsBounded n seq active → v ≤ seq p + 1 → w ≤ active p + 1 → IsBounded (n + 1) (with_at seq p v) (with_at active p w)
bounded_with n seq active p v w h i j = record {
  low = λ q. with_case (λ k y. y ≤ n + 1 + 2) seq p v q (λ _. omega (arith, h.low p)) (λ _. omega (arith, h.low q));
  few = λ q. with_case (λ k y. y ≤ n + 1) active p w q (λ _. omega (arith, h.few p)) (λ _. omega (arith, h.few q));
}

pub bounded_seq : (n : ℕ) (seq active : ℕ → ℕ) (p v : ℕ) → IsBounded n seq active → v ≤ seq p + 1 → IsBounded (n + 1) (with_at seq p v) active
bounded_seq n seq active p v h i = record {
  low = λ q. with_case (λ k y. y ≤ n + 1 + 2) seq p v q (λ _. omega (arith, h.low p)) (λ _. omega (arith, h.low q));
  few = λ q. omega (arith, h.few q);
}

-- a change that is not kept, and one that is
pub unseen : (n : ℕ) (seq active : ℕ → ℕ) (interval : ℕ → Option Interval) (x : NotifiersValue) (m : ℕ) (y z : Interval) → NotifiersValueShown n seq active interval x → interval m ≡ Some y → z.proc ≡ y.proc → kept_of z ≡ kept_of y
    → NotifiersValueShown (n + 1) seq active (with_at interval m (Some z)) x
unseen n seq active interval x m y z h e p k = record {
  processes = h.processes;
  mirrors = h.mirrors;
  numbers = h.numbers;
  seqs = h.seqs;
  actives = h.actives;
  procs = λ j i. h.procs j i ∙ sym (same_proc interval m j y z e p);
  in_range = in_range_of interval (with_at interval m (Some z)) (λ j. same_proc interval m j y z e p) h.in_range;
  intervals = λ q j o i. h.intervals q j o i ∙ sym (with_case (λ j (o : Option Interval). interval_of q o ≡ interval_of q (interval j)) interval m (Some z) j (λ _. same q ∙ sym (ap (interval_of q) e)) (λ _. refl));
  bounded = bounded_same n seq active h.bounded;
}
  where
    same : (q : ℕ) → interval_of q (Some z) ≡ interval_of q (Some y)
    same q = ap (λ i. if i == q then Some (kept_of z) else None) p ∙ ap (λ (w : Kept). if y.proc == q then Some w else None) k

pub interval_changed : (n : ℕ) (seq active : ℕ → ℕ) (interval : ℕ → Option Interval) (x : NotifiersValue) (m : ℕ) (y z : Interval) → NotifiersValueShown n seq active interval x → interval m ≡ Some y → z.proc ≡ y.proc
    → NotifiersValueShown (n + 1) seq active (with_at interval m (Some z)) (with_proc x y.proc (with_kept (of_proc x y.proc) m z))
interval_changed n seq active interval x m y z h e p =
    changed n y.proc (with_kept (of_proc x y.proc) m z) seq active interval seq active (with_at interval m (Some z)) x x.procs h (record {
      seq_here = h.seqs y.proc;
      active_here = h.actives y.proc;
      len_here = λ o. len_set (of_proc x y.proc).intervals m (Some (kept_of z)) 32 (h.numbers y.proc o);
      intervals_here = λ j o i. at_set (λ j. interval_of y.proc (interval j)) (of_proc x y.proc).intervals m (Some (kept_of z)) None j (omega (arith, h.numbers y.proc o)) (h.intervals y.proc j o i)
          ∙ with_case (λ j (o : Option Interval). with_at (λ j. interval_of y.proc (interval j)) m (Some (kept_of z)) j ≡ interval_of y.proc o) interval m (Some z) j
          (λ _. here_at (λ j. interval_of y.proc (interval j)) m (Some (kept_of z)) ∙ sym (mine y.proc z p)) (λ ne. other_at (λ j. interval_of y.proc (interval j)) m j (Some (kept_of z)) ne);
      seq_else = λ q ne. refl;
      active_else = λ q ne. refl;
      intervals_else = λ q j ne i. with_case (λ j (o : Option Interval). interval_of q o ≡ interval_of q (interval j)) interval m (Some z) j
          (λ _. not_mine q z (λ d. ne (sym d ∙ p)) ∙ sym (ap (interval_of q) e ∙ not_mine q y (λ d. ne (sym d)))) (λ _. refl);
      in_range = in_range_of interval (with_at interval m (Some z)) (λ j. same_proc interval m j y z e p) h.in_range;
      next_bounded = bounded_same n seq active h.bounded;
    }) h.mirrors (λ j i. h.procs j i ∙ sym (same_proc interval m j y z e p))
