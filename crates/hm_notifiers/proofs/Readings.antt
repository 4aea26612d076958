-- What is read of the notifiers is what the history gives.
use Rattle.std.proofs.Common.{◌≡◌, ℕ, zero, suc, ◌+◌, ◌-◌, ◌<◌, ◌≤◌, Bool, true, false, cond, not, ◌==◌, ◌&&◌, nat_lt, if◌then◌else◌, Option, Some, None, List, ◌∷◌, length, filter, find, refl, sym, ap, ◌∙◌, arith}
use Rattle.std.specs.Prelude.{option_map, unwrap_or}
use Rattle.std.proofs.lemmas.Bool.{and_right}
use Rattle.hm_base.specs.Pages.{Pages, overlap}
use Rattle.hm_history.specs.Memory.Words.{numbers}
use Rattle.hm_history.specs.Memory.Sequences.{Sequences, Interval, in_tree_state, interval_passes, is_odd, interval_proc, overlaps, overlapping, is_above, next_told, some_overlap, seq_started, is_last_end, seq_ended, seq_inserted, interval_inserted}
use Rattle.interval_tree.specs.Intervals as tree
use Rattle.interval_tree.specs.Intervals.{all_ids}
use Rattle.notifier_seq.specs.declared.interval.Interval.{Interval as Kept}
use Rattle.notifier_seq.specs.Sequences as one
use Rattle.hm_notifiers.specs.NotifiersValue.{NotifiersValue, of_proc, proc_of, seq_of, next_told_of, some_overlap_of, seq_started_of, seq_ended_of, interval_inserted_of}
use Rattle.hm_notifiers.specs.Shown.{kept_of, interval_of, NotifiersValueShown}
use Rattle.hm_notifiers.proofs.Intervals.{mine, in_tree_position}

-- the process of a mirror's interval
pub proc_shown : (n : ℕ) (s : Sequences) (x : NotifiersValue) (m : ℕ) → NotifiersValueShown n s.seq s.active s.interval x → m < 32 → proc_of x m ≡ interval_proc s m
proc_shown n s x m h l = ap (λ (o : Option ℕ). unwrap_or o 0) (h.procs m l) ∙ either (s.interval m)
  where
    either : (o : Option Interval) → unwrap_or (option_map (λ (y : Interval). y.proc) o) 0 ≡ elim o [ None ↦ 0 | Some y ↦ y.proc ]
    either None = refl
    either (Some y) = refl

-- the interval itself, in its own process
pub record Its (x : NotifiersValue) (m : ℕ) (y : Interval) : Type 0 where
  pub proc : proc_of x m ≡ y.proc
  pub at : one.interval_at (of_proc x y.proc) m ≡ Some (kept_of y)

pub its : (n : ℕ) (s : Sequences) (x : NotifiersValue) (m : ℕ) (y : Interval) → NotifiersValueShown n s.seq s.active s.interval x → s.interval m ≡ Some y → Its x m y
its n s x m y h e =
    let l = h.in_range m y e in
    record {
      proc = proc_shown n s x m h l.0 ∙ ap (λ (o : Option Interval). elim o [ None ↦ 0 | Some y ↦ y.proc ]) e;
      at = h.intervals y.proc m l.1 l.0 ∙ ap (interval_of y.proc) e ∙ mine y.proc y refl;
    }

-- the mirrors that overlap a span
same_numbers : (from n : ℕ) → tree.numbers from n ≡ numbers from n
same_numbers from zero = refl
same_numbers from (suc n) = ap (λ xs. from ∷ xs) (same_numbers (from + 1) n)

ids : all_ids ≡ numbers 0 32
unfolding all_ids
ids = same_numbers 0 32

same_filter : (f g : ℕ → Bool) (from n k : ℕ) → from + n ≤ k → ((m : ℕ) → m < k → f m ≡ g m) → filter f (numbers from n) ≡ filter g (numbers from n)
same_filter f g from zero k l e = refl
same_filter f g from (suc n) k l e =
    let rest = same_filter f g (from + 1) n k (omega arith) e in
    ap (λ b. cond b (from ∷ filter f (numbers (from + 1) n)) (filter f (numbers (from + 1) n))) (e from (omega arith)) ∙ ap (λ (xs : List ℕ). cond (g from) (from ∷ xs) xs) rest

overlaps_kept : (p : ℕ) (r : Pages) (o : Option Interval) → one.interval_passes (λ (y : Kept). one.in_tree_state y.stage && overlap y.window r) (interval_of p o) ≡ interval_passes (λ (y : Interval). in_tree_state y.stage && ((y.proc == p) && overlap y.window r)) o
overlaps_kept p r None = refl
overlaps_kept p r (Some y) =
    elim (y.proc == p) as (λ b. one.interval_passes (λ (y : Kept). one.in_tree_state y.stage && overlap y.window r) (if b then Some (kept_of y) else None) ≡ (in_tree_state y.stage && (b && overlap y.window r))) [
      | true ↦ ap (λ b. b && overlap y.window r) (in_tree_position y.stage)
      | false ↦ sym (and_right (in_tree_state y.stage) false refl)
    ]

pub overlapping_shown : (n : ℕ) (s : Sequences) (x : NotifiersValue) (p : ℕ) (r : Pages) → NotifiersValueShown n s.seq s.active s.interval x → p < 32 → one.overlapping (of_proc x p) r ≡ overlapping s p r
overlapping_shown n s x p r h l =
    ap (filter (one.overlaps (of_proc x p) r)) ids
    ∙ same_filter (one.overlaps (of_proc x p) r) (overlaps s p r) 0 32 32 (omega arith) (λ m k. ap (one.interval_passes (λ (y : Kept). one.in_tree_state y.stage && overlap y.window r)) (h.intervals p m l k) ∙ overlaps_kept p r (s.interval m))

same_above : (after : Option ℕ) (xs : List ℕ) → find (tree.is_above after) xs ≡ find (is_above after) xs
same_above None xs = refl
same_above (Some k) xs = refl

pub next_told_shown : (n : ℕ) (s : Sequences) (x : NotifiersValue) (p : ℕ) (r : Pages) (after : Option ℕ) → NotifiersValueShown n s.seq s.active s.interval x → p < 32 → next_told_of x p r after ≡ next_told s p r after
next_told_shown n s x p r after h l = ap (find (tree.is_above after)) (overlapping_shown n s x p r h l) ∙ same_above after (overlapping s p r)

pub some_overlap_shown : (n : ℕ) (s : Sequences) (x : NotifiersValue) (p : ℕ) (r : Pages) → NotifiersValueShown n s.seq s.active s.interval x → p < 32 → some_overlap_of x p r ≡ some_overlap s p r
some_overlap_shown n s x p r h l = ap (λ (ms : List ℕ). nat_lt 0 (length ms)) (overlapping_shown n s x p r h l)

-- the sequences that entries tell
pub seq_started_shown : (n : ℕ) (s : Sequences) (x : NotifiersValue) (p : ℕ) (r : Pages) → NotifiersValueShown n s.seq s.active s.interval x → p < 32 → seq_started_of x p r ≡ seq_started s p r
seq_started_shown n s x p r h l = started (some_overlap_of x p r) (some_overlap s p r) (seq_of x p) (s.seq p) (some_overlap_shown n s x p r h l) (h.seqs p l)
  where
    started : (b d : Bool) (i j : ℕ) → b ≡ d → i ≡ j → (if b && not (is_odd i) then i + 1 else i) ≡ (if d && not (is_odd j) then j + 1 else j)
    started b d i j e f = rw (e, f) refl

pub moves_on_shown : (n : ℕ) (s : Sequences) (x : NotifiersValue) (p : ℕ) → NotifiersValueShown n s.seq s.active s.interval x → p < 32 → one.moves_on (of_proc x p) ≡ is_last_end s p
moves_on_shown n s x p h l = ap (λ i. (i == 1) && is_odd (of_proc x p).seq) (h.actives p l) ∙ ap (λ i. (s.active p == 1) && is_odd i) (h.seqs p l)

pub seq_ended_shown : (n : ℕ) (s : Sequences) (x : NotifiersValue) (p : ℕ) → NotifiersValueShown n s.seq s.active s.interval x → p < 32 → seq_ended_of x p ≡ seq_ended s p
seq_ended_shown n s x p h l = ap (λ b. if b then seq_of x p + 1 else seq_of x p) (moves_on_shown n s x p h l) ∙ ap (λ i. if is_last_end s p then i + 1 else i) (h.seqs p l)

pub seq_inserted_shown : (n : ℕ) (s : Sequences) (x : NotifiersValue) (p : ℕ) → NotifiersValueShown n s.seq s.active s.interval x → p < 32 → one.seq_inserted (of_proc x p) ≡ seq_inserted s p
seq_inserted_shown n s x p h l = ap (λ i. if not (is_odd (seq_of x p)) && nat_lt 0 i then seq_of x p + 1 else seq_of x p) (h.actives p l) ∙ ap (λ i. if not (is_odd i) && nat_lt 0 (s.active p) then i + 1 else i) (h.seqs p l)

pub interval_inserted_shown : (n : ℕ) (s : Sequences) (x : NotifiersValue) (p : ℕ) → NotifiersValueShown n s.seq s.active s.interval x → p < 32 → interval_inserted_of x p ≡ interval_inserted s p
interval_inserted_shown n s x p h l = ap (λ i. if is_odd (seq_of x p) then seq_of x p else if nat_lt 0 i then seq_of x p + 1 else (seq_of x p - 1)) (h.actives p l)
    ∙ ap (λ i. if is_odd i then i else if nat_lt 0 (s.active p) then i + 1 else (i - 1)) (h.seqs p l)

-- no sequence comes near its bound
pub seq_bounded : (n : ℕ) (s : Sequences) (x : NotifiersValue) (p : ℕ) → NotifiersValueShown n s.seq s.active s.interval x → p < 32 → seq_of x p ≤ n + 2
seq_bounded n s x p h l = omega (arith, h.seqs p l, h.bounded.low p)
