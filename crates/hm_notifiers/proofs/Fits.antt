-- What a change asks of the notifiers follows from what it asks of the state, and this from the sequence rules.
use Rattle.std.proofs.Common.{◌≡◌, ℕ, Bool, true, false, not, ◌==◌, ◌&&◌, ◌||◌, Option, Some, None, is_some, refl, sym, ap, subst, ◌∙◌, arith, rules, length, nat_lt}
use Rattle.std.specs.Prelude.{IsSome}
use Rattle.std.specs.List.{list_all}
use Rattle.std.proofs.lemmas.Bool.{and_parts, and_right}
use Rattle.hm_base.specs.Pages.{Pages}
use Rattle.hm_history.specs.Memory.Sequences.{Sequences, Interval, Guarded, Stage, InTree, InsertDeferred, RemoveDeferred, Removed, Out, is_odd, interval_passes, overlaps, sequences_accept, guard_passes, same_span, is_next_told, in_tree_state, deferred_state, removed_state}
use Rattle.hm_history.specs.declared.Kind.{Kind}
use Rattle.notifier_seq.specs.Sequences as one
use Rattle.hm_notifiers.specs.NotifiersValue.{NotifiersValue, of_proc, of_mirror, CanStep}
use Rattle.hm_notifiers.specs.Shown.{position_of, kept_of, interval_of, NotifiersValueShown, leaves_later, leaves_now, NotifiersValueFit}
use Rattle.hm_notifiers.proofs.Readings.{its}
use Rattle.hm_notifiers.proofs.Kept.{there, is_there}

-- an interval that leaves does not wait to leave already
later_stays : (t : Stage) (odd : Bool) → leaves_later t odd ≡ true → one.leaving_state (position_of t) ≡ false
later_stays InTree odd f = refl
later_stays InsertDeferred odd f = refl
later_stays RemoveDeferred odd f = absurd (let b : ⊥ = cc in b)
later_stays Removed odd f = refl
later_stays Out odd f = refl

now_stays : (t : Stage) (odd : Bool) → leaves_now t odd ≡ true → one.leaving_state (position_of t) ≡ false
now_stays InTree odd f = refl
now_stays InsertDeferred odd f = refl
now_stays RemoveDeferred odd f = absurd (let b : ⊥ = cc in b)
now_stays Removed odd f = refl
now_stays Out odd f = refl

at_its : (n : ℕ) (s : Sequences) (x : NotifiersValue) (m : ℕ) (y : Interval) → NotifiersValueShown n s.seq s.active s.interval x → s.interval m ≡ Some y → one.interval_at (of_mirror x m) m ≡ Some (kept_of y)
at_its n s x m y h e = let i = its n s x m y h e in ap (λ p. one.interval_at (of_proc x p) m) i.proc ∙ i.at

-- the step may be made
pub can_step : (n : ℕ) (s : Sequences) (k : Kind) (x : NotifiersValue) → NotifiersValueShown n s.seq s.active s.interval x → NotifiersValueFit n s k → CanStep k x
can_step n s (Kind.Start p r q) x h f = λ l. (omega (arith, h.seqs p l, h.bounded.low p), omega (arith, h.actives p l, h.bounded.few p))
can_step n s (Kind.Told m r q) x h f = is_there (s.interval m) f (λ y e. subst IsSome (sym (at_its n s x m y h e)) (search rules))
can_step n s (Kind.End p r q) x h f = λ l. (omega (arith, h.seqs p l, h.bounded.low p), omega (arith, h.actives p l, f.1))
can_step n s (Kind.Attached m d p r q) x h f = λ l o. h.intervals p m o l ∙ ap (interval_of p) f
can_step n s (Kind.Detaching m q) x h f = there (λ y. leaves_later y.stage (is_odd (s.seq y.proc))) (s.interval m) f (λ y e t. ap (one.interval_passes (λ w. one.leaving_state w.stage)) (at_its n s x m y h e) ∙ later_stays y.stage (is_odd (s.seq y.proc)) t)
can_step n s (Kind.Detached m) x h f = there (λ y. leaves_now y.stage (is_odd (s.seq y.proc))) (s.interval m) f (λ y e t. ap (one.interval_passes (λ w. one.leaving_state w.stage)) (at_its n s x m y h e) ∙ now_stays y.stage (is_odd (s.seq y.proc)) t)
can_step n s k x h f = tt

passes_there : (test : Interval → Bool) (o : Option Interval) → interval_passes test o ≡ true → is_some o ≡ true
passes_there test None e = cc
passes_there test (Some y) e = refl

told_from : (s : Sequences) (m : ℕ) (r : Pages) (q : ℕ) (o : Option Guarded) → guard_passes (λ g. same_span g.span r && (nat_lt 0 (length g.met) && (is_next_told s g m && (q == s.seq g.proc)))) o ≡ true → is_some (s.interval m) ≡ true
told_from s m r q None e = absurd (let b : ⊥ = cc in b)
told_from s m r q (Some g) e =
    let next = (and_parts (is_next_told s g m) _ (and_parts (nat_lt 0 (length g.met)) _ (and_parts (same_span g.span r) _ e).1).1).0 in
    passes_there _ (s.interval m) (and_parts (overlaps s g.proc g.span m) _ (and_parts (list_all (λ k. nat_lt k m) g.told) _ next).1).0

-- of an interval that is told
pub told_fits : (n : ℕ) (s : Sequences) (a m q : ℕ) (r : Pages) → sequences_accept s a (Kind.Told m r q) ≡ true → NotifiersValueFit n s (Kind.Told m r q)
told_fits n s a m q r e = told_from s m r q (s.guard a) e

-- of one whose removal waits, or is made: the second premise of each is that of the state
later_from : (t : Stage) (odd : Bool) → odd ≡ true → in_tree_state t ≡ true → (t ≡ RemoveDeferred → ⊥) → leaves_later t odd ≡ true
later_from InTree odd o e f = o
later_from InsertDeferred odd o e f = cc
later_from RemoveDeferred odd o e f = absurd (f refl)
later_from Removed odd o e f = cc
later_from Out odd o e f = cc

pub detaching_fits : (n : ℕ) (s : Sequences) (a m q : ℕ) → sequences_accept s a (Kind.Detaching m q) ≡ true → ((y : Interval) → s.interval m ≡ Some y → y.stage ≡ RemoveDeferred → ⊥) → NotifiersValueFit n s (Kind.Detaching m q)
detaching_fits n s a m q e f = by (s.interval m) refl
  where
    proc_in : Option Interval → ℕ
    proc_in o = elim o [ None ↦ 0 | Some y ↦ y.proc ]

    takes : Option Interval → Bool
    takes o = is_odd (s.seq (proc_in o)) && (interval_passes (λ y. in_tree_state y.stage) o && (q == s.seq (proc_in o)))

    by : (o : Option Interval) → s.interval m ≡ o → interval_passes (λ y. leaves_later y.stage (is_odd (s.seq y.proc))) (s.interval m) ≡ true
    by None i = let no : false ≡ true = sym (and_right (is_odd (s.seq 0)) false refl) ∙ (sym (ap takes i) ∙ e) in absurd (let b : ⊥ = cc in b)
    by (Some y) i =
        let t : takes (Some y) ≡ true = sym (ap takes i) ∙ e in
        ap (interval_passes (λ y. leaves_later y.stage (is_odd (s.seq y.proc)))) i
        ∙ later_from y.stage (is_odd (s.seq y.proc)) (and_parts (is_odd (s.seq y.proc)) _ t).0 (and_parts (in_tree_state y.stage) _ (and_parts (is_odd (s.seq y.proc)) _ t).1).0 (f y i)

now_from : (t : Stage) (odd : Bool) → (deferred_state t || ((in_tree_state t && not odd) || removed_state t)) ≡ true → (t ≡ RemoveDeferred → odd ≡ true) → leaves_now t odd ≡ true
now_from InTree true e f = cc
now_from InTree false e f = refl
now_from InsertDeferred odd e f = refl
now_from RemoveDeferred true e f = cc
now_from RemoveDeferred false e f = f refl
now_from Removed odd e f = refl
now_from Out odd e f = refl

pub detached_fits : (n : ℕ) (s : Sequences) (a m : ℕ) → sequences_accept s a (Kind.Detached m) ≡ true → ((y : Interval) → s.interval m ≡ Some y → y.stage ≡ RemoveDeferred → is_odd (s.seq y.proc) ≡ true) → NotifiersValueFit n s (Kind.Detached m)
detached_fits n s a m e f = by (s.interval m) refl
  where
    takes : Option Interval → Bool
    takes o = interval_passes (λ y. deferred_state y.stage) o
        || ((interval_passes (λ y. in_tree_state y.stage) o && not (is_odd (s.seq (elim o [ None ↦ 0 | Some y ↦ y.proc ])))) || interval_passes (λ y. removed_state y.stage) o)

    by : (o : Option Interval) → s.interval m ≡ o → interval_passes (λ y. leaves_now y.stage (is_odd (s.seq y.proc))) (s.interval m) ≡ true
    by None i = let no : false ≡ true = sym (ap takes i) ∙ e in absurd (let b : ⊥ = cc in b)
    by (Some y) i = ap (interval_passes (λ y. leaves_now y.stage (is_odd (s.seq y.proc)))) i ∙ now_from y.stage (is_odd (s.seq y.proc)) (sym (ap takes i) ∙ e) (f y i)
