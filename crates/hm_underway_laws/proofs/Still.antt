-- An interval that has its process's odd sequence keeps it, as long as a guard of the process is under way.
use Rattle.std.proofs.Common.{◌≡◌, ℕ, ◌⊎◌, Bool, true, false, ◌==◌, ◌&&◌, if◌then◌else◌, Option, Some, None, refl, sym, ap, ◌∙◌, subst, arith}
use Rattle.std.proofs.lemmas.Bool.{eqb-true}
use Rattle.hm_base.specs.Pages.{covers}
use Rattle.hm_base.specs.Program.{Program}
use Rattle.hm_history.specs.Memory.Sequences.{Interval, Guarded, Stage, RemoveDeferred, Out, is_odd, interval_seq, interval_proc, is_last_end, applied_stage, applied, with_seq, with_stage as with_stage, all_told}
use Rattle.hm_history.specs.Kernel.Stacks.{is_end}
use Rattle.hm_history.specs.Memory.After.{After}
use Rattle.hm_history.specs.declared.Kind.{Kind}
use Rattle.hm_laws.specs.Past.{Past}
use Rattle.hm_laws.specs.Sound.{Pairing, Sound}
use Rattle.hm_laws.specs.Allowed.{next, Allowed}
use Rattle.hm_laws.proofs.Kept.Mirrors.{interval_of}
use Rattle.hm_laws.proofs.Kept.Attached.{new_mirror}
use Rattle.hm_laws.proofs.Kept.Sequences.{started_rises, inserted_rises, ended_else, not_last}
use Rattle.hm_laws.proofs.State.Invalidations.{end_says}
use Rattle.hm_history.proofs.Updates.{with_case}
use Rattle.hm_history.proofs.Tests.{same_some}
use Rattle.hm_underway_laws.specs.Invalidating.{IsStill}

-- an interval of this process with this sequence
abbrev pub Has : ℕ → ℕ → Option Interval → Type 0
Has p q x = (y : Interval) × (x ≡ Some y) × (y.proc ≡ p) × (y.seq ≡ q)

pub seq_has : (p q : ℕ) (x : Option Interval) → Has p q x → Has p q (with_seq q x)
seq_has p q None h = absurd (none_some h.0 h.1)
  where
    none_some : (y : Interval) → None ≡ Some y → ⊥
    none_some y e = cc
seq_has p q (Some z) h = (record z { seq = q }, refl, ap proc_in h.1 ∙ h.2, refl)
  where
    proc_in : Option Interval → ℕ
    proc_in None = 0
    proc_in (Some i) = i.proc

stage_has : (p q : ℕ) (t : Stage) (x : Option Interval) → Has p q x → Has p q (with_stage t x)
stage_has p q t x h = subst (λ i. Has p q (with_stage t i)) (sym h.1) (record h.0 { stage = t }, refl, h.2, h.3)

applied_has : (p q r : ℕ) (x : Option Interval) → Has p q x → Has p q (applied r x)
applied_has p q r x h = subst (λ i. Has p q (applied r i)) (sym h.1) (by (h.0.proc == r))
  where
    by : (b : Bool) → Has p q (if b then Some (record h.0 { stage = applied_stage h.0.stage }) else Some h.0)
    by true = (record h.0 { stage = applied_stage h.0.stage }, refl, h.2, h.3)
    by false = (h.0, refl, h.2, h.3)

-- what is still, and what has such an interval
pub has_of : (s : After) (m p : ℕ) → IsStill s m p → Has p (s.sequences.seq p) (s.sequences.interval m)
has_of s m p h = (h.interval, h.is, h.proc, h.same)

pub still_of : (s : After) (m p q : ℕ) → Has p q (s.sequences.interval m) → s.sequences.seq p ≡ q → is_odd q ≡ true → IsStill s m p
still_of s m p q h e o = record { interval = h.0; is = h.1; proc = h.2; same = h.3 ∙ sym e; odd = ap is_odd e ∙ o }

-- after an entry that is not the end of the guard
pub still_next : (c : Program) (s : After) (t : Past) (a : ℕ) → Sound c s t → (k : Kind) → Allowed c s t a k → (b : ℕ) (g : Guarded) → s.sequences.guard b ≡ Some g → (b ≡ a → is_end k ≡ false) → (m : ℕ) → IsStill s m g.proc → IsStill (next s a k) m g.proc
still_next c s t a so (Kind.Start p r q) ok b g is ne m h = still_of (next s a (Kind.Start p r q)) m g.proc (s.sequences.seq g.proc) (has_of s m g.proc h) ((started_rises s.sequences p r g.proc).1 h.odd) h.odd
still_next c s t a so (Kind.Told i r q) ok b g is ne m h = still_of (next s a (Kind.Told i r q)) m g.proc (s.sequences.seq g.proc)
    (with_case (λ j x. j ≡ m → Has g.proc (s.sequences.seq g.proc) x) s.sequences.interval i (with_seq (s.sequences.seq (interval_proc s.sequences i)) (s.sequences.interval i)) m
    (λ here e. subst (λ q. Has g.proc (s.sequences.seq g.proc) (with_seq q (s.sequences.interval i))) (sym (seq_is e)) (seq_has g.proc (s.sequences.seq g.proc) (s.sequences.interval i) (at i e)))
    (λ ne e. has_of s m g.proc h) refl) refl h.odd
  where
    at : (j : ℕ) → j ≡ m → Has g.proc (s.sequences.seq g.proc) (s.sequences.interval j)
    at j e = subst (λ l. Has g.proc (s.sequences.seq g.proc) (s.sequences.interval l)) (sym e) (has_of s m g.proc h)

    seq_is : i ≡ m → s.sequences.seq (interval_proc s.sequences i) ≡ s.sequences.seq g.proc
    seq_is e = ap s.sequences.seq (ap (λ (x : Option Interval). elim x [ None ↦ 0 | Some y ↦ y.proc ]) (at i e).1 ∙ (at i e).2)
still_next c s t a so (Kind.End p r q) ok b g is ne m h = still_of (next s a (Kind.End p r q)) m g.proc (s.sequences.seq g.proc) (by (is_last_end s.sequences p)) (ended_else s.sequences p g.proc last) h.odd
  where
    own : (i : Guarded) × (s.sequences.guard a ≡ Some i) × (i.proc ≡ p) × (i.span ≡ r) × (all_told i ≡ true)
    own = end_says s.sequences a p r q ok

    apart : b ≡ a → ⊥
    apart e = true_is_false (ne e)
      where
        true_is_false : true ≡ false → ⊥
        true_is_false e = cc

    last : (is_last_end s.sequences p ≡ false) ⊎ (g.proc ≡ p → ⊥)
    last = not_last s.sequences so.sequences a b p own.0 g apart own.1 own.2 is

    by : (d : Bool) → Has g.proc (s.sequences.seq g.proc) (if d then applied p (s.sequences.interval m) else s.sequences.interval m)
    by true = applied_has g.proc (s.sequences.seq g.proc) p (s.sequences.interval m) (has_of s m g.proc h)
    by false = has_of s m g.proc h
still_next c s t a so (Kind.Attached i d p r q) ok b g is ne m h = still_of (next s a (Kind.Attached i d p r q)) m g.proc (s.sequences.seq g.proc)
    (with_case (λ j x. j ≡ m → Has g.proc (s.sequences.seq g.proc) x) s.sequences.interval i _ m (λ here e. absurd (gone e)) (λ ne e. has_of s m g.proc h) refl)
    ((inserted_rises s.sequences p g.proc).1 h.odd) h.odd
  where
    none_some : (x : Option Interval) (y : Interval) → x ≡ None → x ≡ Some y → ⊥
    none_some x y n e = cc

    gone : i ≡ m → ⊥
    gone e = none_some (s.sequences.interval m) h.interval (ap s.sequences.interval (sym e) ∙ (new_mirror c s t a i d p r q so ok.1).1) h.is
still_next c s t a so (Kind.Detaching i q) ok b g is ne m h = still_of (next s a (Kind.Detaching i q)) m g.proc (s.sequences.seq g.proc)
    (with_case (λ j x. j ≡ m → Has g.proc (s.sequences.seq g.proc) x) s.sequences.interval i (with_stage RemoveDeferred (s.sequences.interval i)) m
    (λ here e. stage_has g.proc (s.sequences.seq g.proc) RemoveDeferred (s.sequences.interval i) (subst (λ l. Has g.proc (s.sequences.seq g.proc) (s.sequences.interval l)) (sym e) (has_of s m g.proc h)))
    (λ ne e. has_of s m g.proc h) refl) refl h.odd
still_next c s t a so (Kind.Detached i) ok b g is ne m h = still_of (next s a (Kind.Detached i)) m g.proc (s.sequences.seq g.proc)
    (with_case (λ j x. j ≡ m → Has g.proc (s.sequences.seq g.proc) x) s.sequences.interval i (with_stage Out (s.sequences.interval i)) m
    (λ here e. stage_has g.proc (s.sequences.seq g.proc) Out (s.sequences.interval i) (subst (λ l. Has g.proc (s.sequences.seq g.proc) (s.sequences.interval l)) (sym e) (has_of s m g.proc h)))
    (λ ne e. has_of s m g.proc h) refl) refl h.odd
still_next c s t a so k ok b g is ne m h = still_of (next s a k) m g.proc (s.sequences.seq g.proc) (has_of s m g.proc h) refl h.odd

-- no table entry comes where the interval is still
pub none_next : (c : Program) (s : After) (t : Past) (a : ℕ) → Sound c s t → (k : Kind) → Allowed c s t a k → (m p : ℕ) → IsStill s m p → (v : ℕ) → s.places.table m v ≡ None → (next s a k).places.table m v ≡ None
none_next c s t a so (Kind.Set i u f w from) ok m p h v n = by (m == i) refl
  where
    pair : (y : Interval) × (s.sequences.interval i ≡ Some y) × Pairing ok.mirror y (s.places.device i)
    pair = interval_of s.plain.mirrors s.sequences.interval s.places.device so.mirrors i ok.mirror ok.is

    clash : m ≡ i → ⊥
    clash e = omega (arith, ok.below, seq_is, same_seq, h.same, ap s.sequences.seq (h.proc), ap s.sequences.seq procs)
      where
        y : Interval
        y = h.interval

        is : s.sequences.interval i ≡ Some y
        is = ap s.sequences.interval (sym e) ∙ h.is

        seq_is : interval_seq s.sequences i ≡ y.seq
        seq_is = ap (λ (x : Option Interval). elim x [ None ↦ 0 | Some j ↦ j.seq ]) is

        same_seq : y.seq ≡ s.sequences.seq p
        same_seq = h.same

        procs : ok.mirror.proc ≡ y.proc
        procs = sym pair.2.proc ∙ ap (λ (j : Interval). j.proc) (same_some (s.sequences.interval i) pair.0 y pair.1 is)

    by : (b : Bool) → (m == i) ≡ b → (if b && (v == u) then Some (record { target = f; right = w; from = from }) else s.places.table m v) ≡ None
    by true e = absurd (clash (eqb-true m i e))
    by false e = n
none_next c s t a so (Kind.Told i r q) ok m p h v n = gone ((m == i) && covers r v)
  where
    gone : (b : Bool) → (if b then None else s.places.table m v) ≡ None
    gone true = refl
    gone false = n
none_next c s t a so (Kind.Detaching i q) ok m p h v n = gone ((m == i) && true)
  where
    gone : (b : Bool) → (if b then None else s.places.table m v) ≡ None
    gone true = refl
    gone false = n
none_next c s t a so (Kind.Detached i) ok m p h v n = gone ((m == i) && true)
  where
    gone : (b : Bool) → (if b then None else s.places.table m v) ≡ None
    gone true = refl
    gone false = n
none_next c s t a so k ok m p h v n = n
